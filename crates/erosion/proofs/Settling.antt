-- What is known between the rounds of a parallel settling.
use Rattle.std.proofs.Common.{◌≡◌, ℕ, suc, ◌+◌, ◌<◌, ◌≤◌, max, Bool, true, false, List, sym, ◌∙◌, subst, ⊎_elim, arith}
use Rattle.std.proofs.lemmas.Bool.{cases_lt}
use Rattle.sheet.specs.declared.size.Size.{Size}
use Rattle.sheet.specs.Images.{Image, image_of}
use Rattle.metric.specs.Model.{Model}
use Rattle.metric.specs.Laws.{Lawful}
use Rattle.transform.specs.Settled.{settled}
use Rattle.transform.specs.Erosion.{rounds, Idle, FirstIdle}
use Rattle.transform.proofs.Least.{eroded_same}
use Rattle.transform.proofs.Rounds.{busy_soon, first_idle_settles}
use Rattle.erosion.specs.Memory.{Shows}
use Rattle.erosion.specs.Rounds.{round_of, Rounded, CountsRounds}

-- the image after i rounds from a picture in memory
abbrev pub rounds_of : Model → Size → List ℕ → ℕ → Image
rounds_of m size picture i = rounds m size.height size.width (image_of size.width picture) i

-- the image that they come to
abbrev pub settled_of : Model → Size → List ℕ → Image
settled_of m size picture = settled m size.height size.width (image_of size.width picture)

-- keys hold the image after i rounds, none of which was idle
pub record Done (m : Model) (size : Size) (picture keys : List ℕ) (i : ℕ) : Type 0 where
  pub image : Shows size keys (rounds_of m size picture i)
  pub busy : (j : ℕ) → j < i → Idle size.height size.width (rounds m size.height size.width (image_of size.width picture)) j → ⊥

-- round n was the first idle one: the memory before it and the memory after it hold the settled image
pub record Ended (m : Model) (size : Size) (picture before after : List ℕ) (n : ℕ) : Type 0 where
  pub image_before : Shows size before (settled_of m size picture)
  pub image_after : Shows size after (settled_of m size picture)
  pub counts : CountsRounds m size picture n

-- from keys with the image after i rounds, round i + 1 makes the next image
next_image : (m : Model) (size : Size) (picture keys after : List ℕ) (i : ℕ) → Shows size keys (rounds_of m size picture i) → Shows size after (round_of size (m.straight (i + 1)) (m.diagonal (i + 1)) keys) → Shows size after (rounds_of m size picture (suc i))
unfolding rounds
next_image m size picture keys after i now next r c row column =
    let e : i + 1 ≡ suc i = omega arith in
    next r c row column
    ∙ (λ k. round_of size (m.straight (e k)) (m.diagonal (e k)) keys r c)
    ∙ eroded_same size.height size.width (m.straight (suc i)) (m.diagonal (suc i)) (image_of size.width keys) (rounds_of m size picture i) now r c row column

module _ {m : Model} (law : Lawful m) {size : Size} {picture keys : List ℕ} {i : ℕ} (done : Done m size picture keys i) where
  pub few_rounds : i < max size.width size.height
  few_rounds = busy_soon m size.height size.width (image_of size.width picture) law size.tall size.wide i size.columns done.busy

  module _ {s d : ℕ} (straight : s ≡ m.straight (i + 1)) (diagonal : d ≡ m.diagonal (i + 1)) {spare after : List ℕ} {altered : Bool} (round : Rounded size s d keys spare after altered) where
    image : Shows size after (rounds_of m size picture (suc i))
    image = next_image m size picture keys after i done.image (λ r c row column. round.image r c row column ∙ (λ k. round_of size (straight k) (diagonal k) keys r c))

    pub done_more : altered ≡ true → Done m size picture after (i + 1)
    done_more busy =
        let e : suc i ≡ i + 1 = omega arith in
        record {
          image = subst (λ (k : ℕ). Shows size after (rounds_of m size picture k)) e image;
          busy = λ j p idle.
              ⊎_elim
              (λ (l : j < i). done.busy j l idle)
              (λ (l : i ≤ j).
              let q : i ≡ j = omega arith in
              round.busy busy (λ r c row column.
              image r c row column
              ∙ (λ k. rounds_of m size picture (suc (q k)) r c)
              ∙ idle r c row column
              ∙ (λ k. rounds_of m size picture (sym q k) r c)
              ∙ sym (done.image r c row column)))
              (cases_lt j i);
        }

    pub done_last : altered ≡ false → Ended m size picture keys after (i + 1)
    done_last idle =
        let first : FirstIdle size.height size.width (rounds m size.height size.width (image_of size.width picture)) (i + 1) =
        record {
          before = i;
          next = omega arith;
          idle = λ r c row column. sym (image r c row column) ∙ round.idle idle r c row column ∙ done.image r c row column;
          busy = done.busy;
        } in
        let settles = first_idle_settles m size.height size.width (image_of size.width picture) law size.tall size.wide (i + 1) size.columns first in
        let e : suc i ≡ i + 1 = omega arith in
        let last : Shows size after (settled_of m size picture) = λ r c row column. image r c row column ∙ (λ k. rounds_of m size picture (e k) r c) ∙ settles.0 r c row column in
        record {
          image_before = λ r c row column. sym (round.idle idle r c row column) ∙ last r c row column;
          image_after = last;
          counts = record { first = first; soon = settles.1 };
        }
