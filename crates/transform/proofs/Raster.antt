-- The two scans of the raster order leave the settled image.
use Rattle.std.proofs.Common.{◌≡◌, ℕ, zero, suc, ◌+◌, ◌-◌, ◌*◌, ◌<◌, ◌≤◌, min, max, Bool, true, cond, eqb, ◌⊎◌, sym, refl, ◌∙◌, subst, inl, inr, ⊎_elim, le_trans, le_antisymm, arith}
use Rattle.std.proofs.lemmas.Bool.{cases_lt, cases_order, cond-true, cond_both, eq-eqb, eqb-true, lt-ltb, ltb-true}
use Rattle.std.proofs.lemmas.Nat.{mul-add-lt}
use Rattle.sheet.specs.Pixels.{place_of, apart, ring, weight_of}
use Rattle.sheet.specs.Keys.{blank, key_of, stepped}
use Rattle.sheet.specs.Images.{Image, least_on}
use Rattle.metric.specs.Model.{Model}
use Rattle.metric.specs.Laws.{Lawful, step_weight}
use Rattle.transform.specs.Settled.{settled}
use Rattle.transform.specs.Erosion.{starting, offer}
use Rattle.transform.specs.Raster.{rising, falling, scanned, Scan, ScansSettle}
use Rattle.transform.proofs.Least.{least_on_le, least_on_blank, le_least_on}
use Rattle.transform.proofs.Rings.{le_settled, settled_blank}
use Rattle.transform.proofs.Steady.{key_along, key_here, settled_start, far_step, settled_stable}

-- what each neighbour of r, c on the sheet offers that comes before it is at least k
abbrev pub BelowEarlier : (ℕ → ℕ → Bool) → ℕ → ℕ → ℕ → ℕ → Image → ℕ → ℕ → ℕ → Type 0
BelowEarlier before h w straight diagonal g r c k = (r' c' : ℕ) → r' < h → c' < w → before (place_of w r' c') (place_of w r c) ≡ true → ring r c r' c' ≡ 1 → k ≤ stepped (g r' c') (weight_of straight diagonal (apart c c') (apart r r'))

-- the scanned key is at most the own key, each earlier offer and blank, and the greatest such number
module _ (before : ℕ → ℕ → Bool) (h w straight diagonal : ℕ) (f g : Image) (r c : ℕ) where
  -- what the scan looks at, pixel by pixel
  abbrev earlier : Image
  earlier r' c' = cond (before (place_of w r' c') (place_of w r c)) (offer straight diagonal g r c r' c') blank

  pub scanned_own : scanned before h w straight diagonal f g r c ≤ f r c
  unfolding scanned
  scanned_own = omega arith

  pub scanned_blank : scanned before h w straight diagonal f g r c ≤ blank
  unfolding scanned
  scanned_blank = let low = least_on_blank h w earlier in omega arith

  pub scanned_near : BelowEarlier before h w straight diagonal g r c (scanned before h w straight diagonal f g r c)
  unfolding scanned
  scanned_near r' c' row column first near =
      let bound : least_on h w earlier ≤ earlier r' c' = least_on_le h w earlier r' c' row column in
      let same : earlier r' c' ≡ stepped (g r' c') (weight_of straight diagonal (apart c c') (apart r r')) = cond-true _ _ _ first ∙ cond-true _ _ _ (eq-eqb _ _ near) in
      le_trans (omega arith) (subst (λ (x : ℕ). least_on h w earlier ≤ x) same bound)

  pub le_scanned : (k : ℕ) → k ≤ blank → k ≤ f r c → BelowEarlier before h w straight diagonal g r c k → k ≤ scanned before h w straight diagonal f g r c
  unfolding scanned
  le_scanned k small own near =
      let bound : k ≤ least_on h w earlier =
      le_least_on h w earlier k small (λ r' c' row column.
      cond_both (before (place_of w r' c') (place_of w r c)) _ blank (λ (x : ℕ). k ≤ x)
      (λ first. cond_both (eqb (ring r c r' c') 1) _ blank (λ (x : ℕ). k ≤ x) (λ e. near r' c' row column first (eqb-true _ _ e)) (λ e. small))
      (λ e. small)) in
      omega arith

-- a scan is at most what it began from, and at most what is offered
module _ (before : ℕ → ℕ → Bool) (h w straight diagonal : ℕ) (f g : Image) (scan : Scan before h w straight diagonal f g) (r c : ℕ) (row : r < h) (column : c < w) where
  scan_own : g r c ≤ f r c
  scan_own = subst (λ (n : ℕ). n ≤ f r c) (sym (scan r c row column)) (scanned_own before h w straight diagonal f g r c)

  scan_near : BelowEarlier before h w straight diagonal g r c (g r c)
  scan_near = subst (λ (n : ℕ). BelowEarlier before h w straight diagonal g r c n) (sym (scan r c row column)) (scanned_near before h w straight diagonal f g r c)

-- places in raster order, by rows and by columns
row_before : (w r c r' c' : ℕ) → r' < r → c' < w → place_of w r' c' < place_of w r c
row_before w r c r' c' rows column = omega (arith, mul-add-lt r' w c' r rows column)

column_before : (w r c c' : ℕ) → c' < c → place_of w r c' < place_of w r c
column_before w r c c' columns = omega arith

stepped_rises : (n x y v : ℕ) → n ≤ stepped x v → x ≤ y → n ≤ stepped y v
stepped_rises n x y v u e = omega arith

-- c₁ lies u nearer to t than c
record Closer (c c₁ t u : ℕ) : Type 0 where
  moved : apart c c₁ ≡ u
  left : apart c t ≡ apart c₁ t + u

fall : (c t : ℕ) → t < c → Closer c (c - 1) t 1
fall c t h = record { moved = omega arith; left = omega arith }

rise : (c t : ℕ) → c < t → Closer c (suc c) t 1
rise c t h = record { moved = omega arith; left = omega arith }

stay : (c t : ℕ) → Closer c c t 0
stay c t = record { moved = omega arith; left = omega arith }

-- r₁, c₁ is a neighbour of r, c one ring nearer to a, b, and no coordinate moves away
record Inward (r c r₁ c₁ a b : ℕ) : Type 0 where
  columns : apart c b ≡ apart c₁ b + apart c c₁
  rows : apart r a ≡ apart r₁ a + apart r r₁
  near : ring r c r₁ c₁ ≡ 1
  inner : ring r c a b ≡ suc (ring r₁ c₁ a b)

inward : (r c r₁ c₁ a b u v : ℕ) → Closer c c₁ b u → Closer r r₁ a v → max u v ≡ 1 → max (apart c₁ b + u) (apart r₁ a + v) ≡ suc (max (apart c₁ b) (apart r₁ a)) → Inward r c r₁ c₁ a b
unfolding ring
inward r c r₁ c₁ a b u v C R near inner = record {
  columns = C.left ∙ (λ k. apart c₁ b + sym C.moved k);
  rows = R.left ∙ (λ k. apart r₁ a + sym R.moved k);
  near = (λ k. max (C.moved k) (R.moved k)) ∙ near;
  inner = (λ k. max (C.left k) (R.left k)) ∙ inner;
}

-- along a diagonal both coordinates come nearer
diagonally : (r c r₁ c₁ a b : ℕ) → Closer c c₁ b 1 → Closer r r₁ a 1 → Inward r c r₁ c₁ a b
diagonally r c r₁ c₁ a b C R = inward r c r₁ c₁ a b 1 1 C R (omega arith) (go (apart c₁ b) (apart r₁ a))
  where
    go : (x y : ℕ) → max (x + 1) (y + 1) ≡ suc (max x y)
    go x y = omega arith

-- along a row or a column the coordinate moves that lies further off
along_row : (r c c₁ a b : ℕ) → Closer c c₁ b 1 → apart r a < apart c b → Inward r c r c₁ a b
along_row r c c₁ a b C less = inward r c r c₁ a b 1 0 C (stay r a) (omega arith) (go (apart c b) (apart c₁ b) (apart r a) C.left less)
  where
    go : (x x₁ y : ℕ) → x ≡ x₁ + 1 → y < x → max (x₁ + 1) (y + 0) ≡ suc (max x₁ y)
    go x x₁ y e h = omega arith

along_column : (r c r₁ a b : ℕ) → Closer r r₁ a 1 → apart c b < apart r a → Inward r c r₁ c a b
along_column r c r₁ a b R less = inward r c r₁ c a b 0 1 (stay c b) R (omega arith) (go (apart r a) (apart r₁ a) (apart c b) R.left less)
  where
    go : (y y₁ x : ℕ) → y ≡ y₁ + 1 → x < y → max (x + 0) (y₁ + 1) ≡ suc (max x y₁)
    go y y₁ x e h = omega arith

-- a nearer row has a column for an inward step, which lies at or toward b
record Beside (r c r₁ a b : ℕ) : Type 0 where
  at : ℕ
  low : min b (suc c) ≤ at
  high : at ≤ max c b
  further : Inward r c r₁ at a b

beside : (r c r₁ a b : ℕ) → Closer r r₁ a 1 → Beside r c r₁ a b
beside r c r₁ a b R =
    ⊎_elim
    (λ (p : c ≡ b). record { at = c; low = omega arith; high = omega arith; further = along_column r c r₁ a b R (omega (arith, R.left)) })
    (⊎_elim
    (λ (p : c < b). record { at = suc c; low = omega arith; high = omega arith; further = diagonally r c r₁ (suc c) a b (rise c b p) R })
    (λ (p : b < c). record { at = c - 1; low = omega arith; high = omega arith; further = diagonally r c r₁ (c - 1) a b (fall c b p) R }))
    (cases_order c b)

-- a pixel of which P holds lies inward from r, c and comes before it in a scan
record Way (before : ℕ → ℕ → Bool) (P : ℕ → ℕ → Type 0) (h w a b r c : ℕ) : Type 0 where
  row : ℕ
  column : ℕ
  on_row : row < h
  on_column : column < w
  first : before (place_of w row column) (place_of w r c) ≡ true
  further : Inward r c row column a b
  again : P row column

-- r, c lies no higher than a, b, and not to the left of the diagonal that goes down and left from there
abbrev Ahead : ℕ → ℕ → ℕ → ℕ → Type 0
Ahead a b r c = (a ≤ r) × (a + b ≤ r + c)

module _ (h w a b r c : ℕ) (row : r < h) (column : c < w) (row' : a < h) (column' : b < w) where
  -- what is ahead has a way in the rising scan, through what is ahead
  way_forth : a ≤ r → a + b ≤ r + c → ((r ≡ a) × (c ≡ b)) ⊎ Way rising (Ahead a b) h w a b r c
  way_forth low right =
      ⊎_elim
      (λ (p : a < r).
      let B = beside r c (r - 1) a b (fall r a p) in
      let on : B.at < w = omega (arith, B.high) in
      inr (record {
        row = r - 1;
        column = B.at;
        on_row = omega arith;
        on_column = on;
        first = lt-ltb _ _ (row_before w r c (r - 1) B.at (omega arith) on);
        further = B.further;
        again = (omega arith, omega (arith, B.low));
      }))
      (λ (p : r ≤ a).
      ⊎_elim
      (λ (q : b < c). inr (record {
        row = r;
        column = c - 1;
        on_row = row;
        on_column = omega arith;
        first = lt-ltb _ _ (column_before w r c (c - 1) (omega arith));
        further = along_row r c (c - 1) a b (fall c b q) (omega arith);
        again = (low, omega arith);
      }))
      (λ (q : c ≤ b). inl (omega arith, omega arith))
      (cases_lt b c))
      (cases_lt a r)

  -- all else has one in the falling scan
  way_back : Ahead a b r c ⊎ Way falling (λ r c. Unit {0}) h w a b r c
  way_back =
      ⊎_elim
      (λ (p : r < a).
      let B = beside r c (suc r) a b (rise r a p) in
      inr (record {
        row = suc r;
        column = B.at;
        on_row = omega arith;
        on_column = omega (arith, B.high);
        first = lt-ltb _ _ (row_before w (suc r) B.at r c (omega arith) column);
        further = B.further;
        again = tt;
      }))
      (λ (p : a ≤ r).
      ⊎_elim
      (λ (q : r + c < a + b). inr (record {
        row = r;
        column = suc c;
        on_row = row;
        on_column = omega arith;
        first = lt-ltb _ _ (column_before w r (suc c) c (omega arith));
        further = along_row r c (suc c) a b (rise c b (omega arith)) (omega arith);
        again = tt;
      }))
      (λ (q : a + b ≤ r + c). inl (p, q))
      (cases_lt (r + c) (a + b)))
      (cases_lt r a)

module _ (m : Model) (law : Lawful m) (steady : m.steady ≡ true) (h w : ℕ) (picture : Image) (tall : h ≤ 1024) (wide : w ≤ 1024) where
  -- a scan goes no lower than the settled image, where each pixel has a higher rank than those that come before it
  scan_above : (before : ℕ → ℕ → Bool) (rank : ℕ → ℕ) → ((p q : ℕ) → p < w * h → before p q ≡ true → rank p < rank q) → (f g : Image) → Scan before h w (m.straight 1) (m.diagonal 1) f g →
      ((r c : ℕ) → r < h → c < w → settled m h w picture r c ≤ f r c) → (r c : ℕ) → r < h → c < w → settled m h w picture r c ≤ g r c
  scan_above before rank ranked f g scan low r c row column = go (suc (rank (place_of w r c))) r c row column (omega arith)
    where
      go : (n r c : ℕ) → r < h → c < w → rank (place_of w r c) < n → settled m h w picture r c ≤ g r c
      go zero r c row column top = absurd (omega arith)
      go (suc n) r c row column top =
          subst (λ (k : ℕ). settled m h w picture r c ≤ k) (sym (scan r c row column))
          (le_scanned before h w (m.straight 1) (m.diagonal 1) f g r c _ (settled_blank m h w picture r c) (low r c row column) (λ r' c' row' column' first near.
          stepped_rises _ _ _ _ (settled_stable m law steady h w picture tall wide r c r' c' row column row' column' near)
          (go n r' c' row' column' (omega (arith, ranked (place_of w r' c') (place_of w r c) (mul-add-lt r' w c' h row' column') first)))))

  -- an air pixel a, b
  module _ (a b : ℕ) (row' : a < h) (column' : b < w) (air : picture a b ≡ 0) where
    -- the key that r, c has of it
    abbrev its_key : ℕ → ℕ → ℕ
    its_key r c = key_of (m.far (apart c b) (apart r a)) (place_of w a b)

    -- a scan carries it along an inward step from a pixel that comes before
    carry : (before : ℕ → ℕ → Bool) (f g : Image) → Scan before h w (m.straight 1) (m.diagonal 1) f g → (r c r₁ c₁ : ℕ) → r < h → c < w → r₁ < h → c₁ < w →
        before (place_of w r₁ c₁) (place_of w r c) ≡ true → Inward r c r₁ c₁ a b → g r₁ c₁ ≤ its_key r₁ c₁ → g r c ≤ its_key r c
    unfolding ring
    carry before f g scan r c r₁ c₁ row column row₁ column₁ first I under =
        key_along (g r c) (g r₁ c₁) (m.far (apart c b) (apart r a)) (m.far (apart c₁ b) (apart r₁ a)) (step_weight m 1 (apart c c₁) (apart r r₁)) (place_of w a b)
        (scan_near before h w (m.straight 1) (m.diagonal 1) f g scan r c row column r₁ c₁ row₁ column₁ first I.near)
        under
        (far_step m law steady (apart c b) (apart r a) (apart c₁ b) (apart r₁ a) (apart c c₁) (apart r r₁) (small c b (omega arith) (omega arith)) (small r a (omega arith) (omega arith)) I.columns I.rows I.near I.inner)
      where
        small : (x y : ℕ) → x < 1024 → y < 1024 → apart x y ≤ 1023
        small x y p q = omega arith

    -- a scan brings it to all of which P holds, where each of these has it already or has a way: by induction on the ring
    descend : (before : ℕ → ℕ → Bool) (f g : Image) → Scan before h w (m.straight 1) (m.diagonal 1) f g → (P : ℕ → ℕ → Type 0) →
        ((r c : ℕ) → r < h → c < w → P r c → (g r c ≤ its_key r c) ⊎ Way before P h w a b r c) → (n r c : ℕ) → ring r c a b ≡ n → r < h → c < w → P r c → g r c ≤ its_key r c
    descend before f g scan P step zero r c level row column here =
        ⊎_elim (λ (done : g r c ≤ its_key r c). done) (λ (W : Way before P h w a b r c). absurd (omega (arith, W.further.inner))) (step r c row column here)
    descend before f g scan P step (suc n) r c level row column here =
        ⊎_elim
        (λ (done : g r c ≤ its_key r c). done)
        (λ (W : Way before P h w a b r c).
        carry before f g scan r c W.row W.column row column W.on_row W.on_column W.first W.further
        (descend before f g scan P step n W.row W.column (omega (arith, W.further.inner)) W.on_row W.on_column W.again))
        (step r c row column here)

    -- the rising scan brings it to all that is ahead, and the falling one from there to the rest
    two_scans : (f g : Image) → Scan rising h w (m.straight 1) (m.diagonal 1) (starting w picture) f → Scan falling h w (m.straight 1) (m.diagonal 1) f g → (r c : ℕ) → r < h → c < w → g r c ≤ its_key r c
    two_scans f g scan scan' r c row column =
        descend falling f g scan' (λ r c. Unit {0})
        (λ r c row column _.
        ⊎_elim
        (λ (ahead : Ahead a b r c). inl (le_trans (scan_own falling h w (m.straight 1) (m.diagonal 1) f g scan' r c row column) (forth r c row column ahead)))
        (λ (W : Way falling (λ r c. Unit {0}) h w a b r c). inr W)
        (way_back h w a b r c row column row' column'))
        (ring r c a b) r c refl row column tt
      where
        forth : (r c : ℕ) → r < h → c < w → Ahead a b r c → f r c ≤ its_key r c
        forth r c row column ahead =
            descend rising (starting w picture) f scan (Ahead a b)
            (λ r c row column ahead.
            ⊎_elim
            (λ (same : (r ≡ a) × (c ≡ b)). inl (key_here w picture f r c a b _ air (scan_own rising h w (m.straight 1) (m.diagonal 1) (starting w picture) f scan r c row column) same))
            (λ (W : Way rising (Ahead a b) h w a b r c). inr W)
            (way_forth h w a b r c row column row' column' ahead.0 ahead.1))
            (ring r c a b) r c refl row column ahead

pub scans_settle : ScansSettle
scans_settle m h w picture f g law steady tall wide scan scan' r c row column =
    le_antisymm (le_settled m h w picture r c (g r c) small (λ a b row' column' air _. two_scans m law steady h w picture tall wide a b row' column' air f g scan scan' r c row column))
    (scan_above m law steady h w picture tall wide falling (λ p. w * h - p) (λ p q top first. later (w * h) p q top (ltb-true _ _ first)) f g scan'
    (scan_above m law steady h w picture tall wide rising (λ p. p) (λ p q top first. ltb-true _ _ first) (starting w picture) f scan (settled_start m h w picture law))
    r c row column)
  where
    small : g r c ≤ blank
    small = subst (λ (n : ℕ). n ≤ blank) (sym (scan' r c row column)) (scanned_blank falling h w (m.straight 1) (m.diagonal 1) f g r c)

    later : (n p q : ℕ) → p < n → q < p → n - p < n - q
    later n p q top first = omega arith
