use Rattle.std.proofs.Common.{◌≡◌, ℕ, List, [], ◌∷◌, IfOk, Some, Ok, Err, Option, Result, subst}
use Rattle.sheet.specs.declared.refusal.Refusal.{Refusal}
use Rattle.sheet.specs.declared.size.Size.{Size}
use Rattle.sheet.specs.Images.{image_of}
use Rattle.sheet.specs.Refusals.{Answers}
use Rattle.metric.specs.Model.{Model}
use Rattle.bench.specs.declared.held.Answer.TheVariants.{Reading}
use Rattle.bench.specs.Truth.{ReadingTrue}
use Rattle.bench.specs.Calls.{reads, Scene, scene, refusal_of, answering}
use Rattle.bench.specs.Runs.{finds_all, GivenTrue}
use Rattle.bench.proofs.tests.first_reading.Goals as goal

-- the reading that was given is true
read_true : (size : Size) (picture : List ℕ) (m : Model) (s : Scene) (row column : ℕ) (result : Result (Option (ℕ × ℕ)) Refusal) →
    Answers (refusal_of s (reads row column)) (s ≡ s) (GivenTrue size picture (Some m) s (reads row column) s) (answering Reading result) →
    IfOk result (λ reading. ReadingTrue m size.height size.width (image_of size.width picture) row column reading)
read_true size picture m s row column (Ok reading) a =
    let given = a.1 in
    let answers : Reading reading ≡ Reading given.0 = given.1.0 in
    let same : given.0 ≡ reading = cc in
    subst (ReadingTrue m size.height size.width (image_of size.width picture) row column) same given.1.1
read_true size picture m s row column (Err refusal) a = tt

-- the run of this bench: opened, settled and read
pub returns : goal.returns
returns g c =
    let opening = c.in_ok-bench.ensures in
    let size = c.in_ok-bench.bench.size in
    let picture = c.args.picture.now in
    let m = g.M.Metric.model c.args.metric.now in
    let run = (c.in_ok-settle.ensures.runs_on size picture [] picture c.open.new.keys picture c.settle.new.keys opening.begins finds_all finds_all).1 in
    let given = (c.read.ensures.runs_on picture [] [] 0 size picture (_ ∷ []) picture c.settle.new.keys picture c.settle.new.keys run finds_all finds_all).0.answer in
    let width = opening.answers.1.0 in
    let height = opening.answers.1.1 in
    coe 0 1 (i. IfOk c.read.result (λ reading. ReadingTrue m (height i) (width i) (image_of (width i) picture) c.args.pixel.0 c.args.pixel.1 reading))
    (read_true size picture m (scene c.settle.new.self picture c.settle.new.keys [] [] 0) c.args.pixel.0 c.args.pixel.1 c.read.result given)
