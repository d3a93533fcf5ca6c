use Rattle.std.proofs.Common.{◌≡◌, ◌*◌, false, length, drop, sym, ap, ◌∙◌, subst, arith, rules}
use lib.ListN.{length-replicate}
use Rattle.std.proofs.lemmas.List.{places, drop_at}
use Rattle.std.proofs.lemmas.Nat.{mul-add-lt}
use Rattle.std.proofs.lemmas.Bool.{le-ltb}
use Rattle.sheet.specs.Images.{Image, image_of}
use Rattle.metric.specs.Laws.{Lawful}
use Rattle.transform.specs.Free.{Stable, Below}
use Rattle.sheet.proofs.Answered.{accepted, check_passed}
use Rattle.settling.specs.Within.{BetweenTakes}
use Rattle.settling.specs.Orders.{CountsTakes}
use Rattle.settling.proofs.Begun.{empty_idle, begun, airless_empty, ended_settled, ended_counts}
use Rattle.settling.proofs.free.run_front.Goals as goal

pub spread_all-requires : goal.spread_all-requires
spread_all-requires g c =
    let started = (accepted _ _ _ _ (check_passed _ _ _ (le-ltb _ _ c.requires.picture) ∙ check_passed _ _ _ (le-ltb _ _ c.requires.keys)) c.start.ensures).1 in
    let air = c.put_air.ensures in
    record {
      fits = omega (arith, c.requires.keys);
      between = begun c.args.size _ _ _ started.0 air.air _ _ _
          (omega (arith, c.requires.room, air.size, ap length c.start-2.ensures.waits, length-replicate (length (g.F.Front.waits c.args.front.now)) false))
          air.rest;
    }

pub returns : goal.returns
returns g c =
    let size = c.args.size in
    let m = g.M.Metric.model c.args.metric.now in
    let started = (accepted _ _ _ _ (check_passed _ _ _ (le-ltb _ _ c.requires.picture) ∙ check_passed _ _ _ (le-ltb _ _ c.requires.keys)) c.start.ensures).1 in
    let air = c.put_air.ensures in
    let ended = c.spread_all.ensures in
    let es = c.weights-weights.ensures.straight in
    let ed = c.weights-weights.ensures.diagonal in
    let ks = c.start.new.keys in
    let ks' = c.spread_all.new.keys in
    let ws' = g.F.Front.waits c.spread_all.new.front in
    let t' = g.F.Front.tally c.spread_all.new.front in
    let picture = c.args.picture.now in
    let law : Lawful m = g.met.M.Metric.lawful c.args.metric.now in
    let between : BetweenTakes size (m.straight 1) (m.diagonal 1) ks' ws' t' = coe 0 1 (k. BetweenTakes size (es k) (ed k) ks' ws' t') ended.between in
    let above : (goal : Image) → Stable size.height size.width (m.straight 1) (m.diagonal 1) goal → Below size.height size.width goal (image_of size.width ks) → Below size.height size.width goal (image_of size.width ks') =
    λ goal stable. ended.above goal (coe 0 1 (k. Stable size.height size.width (sym es k) (sym ed k) goal) stable) in
    let image = ended_settled size picture m law c.requires.steady ks ks' ws' t' between ended.empty started.0 ended.falls above in
    let nothing = c.put_air.ensures.tally ∙ c.start-2.ensures.tally in
    record {
      settles = record {
        image = image;
        copy = λ r e p q. let l = mul-add-lt r size.width e size.height p q in ◌∙◌ {b = image_of size.width ks' r e} (search (rules, places)) (image r e p q);
        rest = ended.rest ∙ started.1;
        spare_rest =
            let e : length c.copy_from_slice.new.self ≡ size.width * size.height = search (rules, places) in
            drop_at _ _ _ e ∙ ap (λ k. drop k c.args.spare.now) (omega arith);
      };
      counts = subst (CountsTakes size picture) (sym c.count.ensures.tally) (ended_counts size picture m law c.requires.steady ks ks' ws' t' between ended.empty image (λ airless. ended.still (airless_empty size picture ks (g.F.Front.waits c.put_air.new.front) started.0 air.air air.rest airless) ∙ nothing));
      waits = empty_idle ws' _ (ended.size ∙ air.size ∙ ap length c.start-2.ensures.waits ∙ length-replicate _ false) ended.empty;
      tally = sym c.count.ensures.tally;
    }
