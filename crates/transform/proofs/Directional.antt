-- The rounds of the directional order, line by line, and the image that its four phases come to.
use Rattle.std.proofs.Common.{◌≡◌, ℕ, zero, suc, ◌+◌, ◌-◌, ◌*◌, ◌<◌, ◌≤◌, max, eqb, sym, refl, ap, ◌∙◌, subst, ⊎_elim, le_trans, le_refl, le_antisymm, arith}
use native.Mathlib.Decide.{le_ind}
use Rattle.std.proofs.lemmas.Bool.{cases_lt, cond-true, cond_both, eq-eqb, eqb-true}
use Rattle.sheet.specs.declared.direction.Direction.{Direction}
use Rattle.sheet.specs.declared.direction.Direction.TheVariants.{North, South, West, East}
use Rattle.sheet.specs.Pixels.{apart}
use Rattle.sheet.specs.Keys.{blank, stepped}
use Rattle.sheet.specs.Images.{Image, Same, least}
use Rattle.sheet.proofs.Weights.{weight_straight}
use Rattle.metric.specs.Model.{Model}
use Rattle.metric.specs.Laws.{Lawful, Reached}
use Rattle.transform.specs.Settled.{settled}
use Rattle.transform.specs.Erosion.{starting, Idle, FirstIdle}
use Rattle.transform.specs.Directional.{AlongRows, swept, sweeps, line_length, TwoPhases, after_two, column_least, row_least, Keyed, SweepsStayIdle, PhaseEnds, PhasesReach, ColumnsThenRows, PhasesSettle}
use Rattle.transform.proofs.Least.{least_le, least_blank, le_least, least_same}
use Rattle.transform.proofs.Rings.{settled_under, le_settled, settled_blank}
use Rattle.transform.proofs.Rounds.{starting_blank}
use Rattle.transform.proofs.Lines.{Side, low, high, line_round, line_rounds, Still, Rising, Climb, step_on, step_back, le_stepped, round_same, still_stays, still_soon, both_sides}

-- the lines of a sheet
pub data Axis : Type 0 where
  columns : Axis
  rows : Axis

-- the direction in which the neighbour on that side lies
abbrev pub toward : Axis → Side → Direction
toward columns low = North
toward columns high = South
toward rows low = West
toward rows high = East

-- what holds along each axis on each side holds of each direction
by_direction : (P : Direction → Type 0) → ((x : Axis) (s : Side) → P (toward x s)) → (d : Direction) → P d
by_direction P all North = all columns low
by_direction P all South = all columns high
by_direction P all West = all rows low
by_direction P all East = all rows high

by_row_direction : (P : Direction → Type 0) → ((s : Side) → P (toward rows s)) → (d : Direction) → AlongRows d → P d
by_row_direction P all North never = absurd never
by_row_direction P all South never = absurd never
by_row_direction P all West _ = all low
by_row_direction P all East _ = all high

-- the line through the pixel r, c, and how many pixels it has
abbrev pub line_at : Axis → Image → ℕ → ℕ → ℕ → ℕ
line_at columns f r c j = f j c
line_at rows f r c j = f r j

abbrev pub length_at : Axis → ℕ → ℕ → ℕ
length_at columns h w = h
length_at rows h w = w

length_toward : (x : Axis) (s : Side) (h w : ℕ) → length_at x h w ≡ line_length (toward x s) h w
length_toward columns low h w = refl
length_toward columns high h w = refl
length_toward rows low h w = refl
length_toward rows high h w = refl

same_line : (x : Axis) (h w : ℕ) (f g : Image) → Same h w f g → (r c : ℕ) → r < h → c < w → (j : ℕ) → j < length_at x h w → line_at x f r c j ≡ line_at x g r c j
same_line columns h w f g same r c row column j on = same j c on column
same_line rows h w f g same r c row column j on = same r j row on

same_lines : (x : Axis) (h w : ℕ) (f g : Image) → ((r c : ℕ) → r < h → c < w → (j : ℕ) → j < length_at x h w → line_at x f r c j ≡ line_at x g r c j) → Same h w f g
same_lines columns h w f g lines r c row column = lines r c row column r row
same_lines rows h w f g lines r c row column = lines r c row column c column

keyed_line : (x : Axis) (h w : ℕ) (f : Image) → Keyed h w f → (r c : ℕ) → r < h → c < w → (j : ℕ) → j < length_at x h w → line_at x f r c j ≤ blank
keyed_line columns h w f keyed r c row column j on = keyed j c on column
keyed_line rows h w f keyed r c row column j on = keyed r j row on

line_swept : (x : Axis) (s : Side) (h w v : ℕ) (f : Image) (r c j : ℕ) → line_at x (swept (toward x s) h w v f) r c j ≡ line_round s (length_at x h w) v (line_at x f r c) j
unfolding swept line_round
line_swept columns low h w v f r c j = refl
line_swept columns high h w v f r c j = refl
line_swept rows low h w v f r c j = refl
line_swept rows high h w v f r c j = refl

-- directional rounds look at the sheet alone
pub swept_same : (d : Direction) (h w v : ℕ) (f g : Image) → Same h w f g → Same h w (swept d h w v f) (swept d h w v g)
swept_same d h w v f g same =
    by_direction (λ d. Same h w (swept d h w v f) (swept d h w v g)) (λ x s.
    same_lines x h w _ _ (λ r c row column j on.
    line_swept x s h w v f r c j ∙ round_same s (length_at x h w) v _ _ (same_line x h w f g same r c row column) j on ∙ sym (line_swept x s h w v g r c j)))
    d

pub sweeps_same : (m : Model) (d : Direction) (h w : ℕ) (f g : Image) → Same h w f g → (i : ℕ) → Same h w (sweeps m d h w f i) (sweeps m d h w g i)
unfolding sweeps
sweeps_same m d h w f g same zero = same
sweeps_same m d h w f g same (suc i) = swept_same d h w (m.straight (suc i)) _ _ (sweeps_same m d h w f g same i)

pub first_idle_same : (h w : ℕ) (series series' : ℕ → Image) (n : ℕ) → ((i : ℕ) → Same h w (series i) (series' i)) → FirstIdle h w series n → FirstIdle h w series' n
first_idle_same h w series series' n same first = record {
  before = first.before;
  next = first.next;
  idle = λ r c row column. sym (same (suc first.before) r c row column) ∙ first.idle r c row column ∙ same first.before r c row column;
  busy = λ i before idle. first.busy i before (λ r c row column. same (suc i) r c row column ∙ idle r c row column ∙ sym (same i r c row column));
}

-- rounds over columns are rounds over the rows of the sheet with rows and columns exchanged
flipped_once : (s : Side) (h w v : ℕ) (f : Image) (r c : ℕ) → swept (toward rows s) w h v (λ a b. f b a) c r ≡ swept (toward columns s) h w v f r c
unfolding swept
flipped_once low h w v f r c = refl
flipped_once high h w v f r c = refl

pub flipped : (m : Model) (s : Side) (h w : ℕ) (f : Image) (i r c : ℕ) → sweeps m (toward rows s) w h (λ a b. f b a) i c r ≡ sweeps m (toward columns s) h w f i r c
unfolding sweeps
flipped m s h w f zero r c = refl
flipped m s h w f (suc i) r c =
    (λ k. swept (toward rows s) w h (m.straight (suc i)) (λ b a. flipped m s h w f i a b k) c r) ∙ flipped_once s h w (m.straight (suc i)) (sweeps m (toward columns s) h w f i) r c

-- rounds lower keys
sweeps_fall : (m : Model) (d : Direction) (h w : ℕ) (f : Image) (i r c : ℕ) → sweeps m d h w f (suc i) r c ≤ sweeps m d h w f i r c
unfolding swept sweeps
sweeps_fall m d h w f i r c = omega arith

pub sweeps_keyed : (m : Model) (d : Direction) (h w : ℕ) (f : Image) → Keyed h w f → (i : ℕ) → Keyed h w (sweeps m d h w f i)
unfolding sweeps
sweeps_keyed m d h w f keyed zero r c row column = keyed r c row column
sweeps_keyed m d h w f keyed (suc i) r c row column = le_trans (sweeps_fall m d h w f i r c) (sweeps_keyed m d h w f keyed i r c row column)

-- far along a column or a row
abbrev pub far_along : Model → Axis → ℕ → ℕ
far_along m columns k = m.far 0 k
far_along m rows k = m.far k 0

module _ (m : Model) (law : Lawful m) where
  straight_rises : Rising m.straight
  straight_rises i j some le top =
      le_ind (λ (k : ℕ). k ≤ 1024 → m.straight i ≤ m.straight k) (λ _. le_refl _)
      (λ k below rest top. le_trans (rest (omega arith)) (law.weights_rise k (omega arith) (omega arith)).0) j le top

  -- the way to an offset in one row or one column makes a straight step last
  far_last : (x y k : ℕ) → x + y ≡ suc k → max x y ≡ suc k → (B : Reached m x y) → m.far x y ≡ m.far B.x' B.y' + m.straight (suc k)
  far_last x y k sum greatest B =
      B.exact ∙ ap (λ (v : ℕ). m.far B.x' B.y' + v)
      (weight_straight _ _ (x - B.x') (y - B.y') (one B.x' B.y' B.x_within B.y_within B.inner) ∙ ap m.straight greatest)
    where
      one : (x' y' : ℕ) → x' ≤ x → y' ≤ y → suc (max x' y') ≡ max x y → (x - x') + (y - y') ≡ 1
      one x' y' p q e = omega arith

  -- far along a line sums the weights
  climb : (x : Axis) → Climb m.straight (far_along m x)
  climb columns = record {
    rises = straight_rises;
    none = law.far_zero;
    more = λ k top.
        let B = law.reached 0 (suc k) (omega arith) top (omega arith) in
        let p : B.x' ≡ 0 = omega (arith, B.x_within) in
        let q : B.y' ≡ k = omega (arith, B.x_within, B.y_within, B.inner) in
        far_last 0 (suc k) k (omega arith) (omega arith) B ∙ (λ i. m.far (p i) (q i) + m.straight (suc k));
  }
  climb rows = record {
    rises = straight_rises;
    none = law.far_zero;
    more = λ k top.
        let B = law.reached (suc k) 0 top (omega arith) (omega arith) in
        let p : B.x' ≡ k = omega (arith, B.x_within, B.y_within, B.inner) in
        let q : B.y' ≡ 0 = omega (arith, B.y_within) in
        far_last (suc k) 0 k (omega arith) (omega arith) B ∙ (λ i. m.far (p i) (q i) + m.straight (suc k));
  }

-- the round after i rounds alters nothing on the line through r, c
abbrev pub LineIdle : Model → Axis → Side → ℕ → ℕ → Image → ℕ → ℕ → ℕ → Type 0
LineIdle m x s h w f r c i = (j : ℕ) → j < length_at x h w → line_at x (sweeps m (toward x s) h w f (suc i)) r c j ≡ line_at x (sweeps m (toward x s) h w f i) r c j

module _ (m : Model) (x : Axis) (s : Side) (h w : ℕ) (f : Image) where
  line_sweeps : (i r c j : ℕ) → line_at x (sweeps m (toward x s) h w f i) r c j ≡ line_rounds s (length_at x h w) m.straight (line_at x f r c) i j
  unfolding sweeps line_rounds
  line_sweeps zero r c j = refl
  line_sweeps (suc i) r c j =
      line_swept x s h w (m.straight (suc i)) (sweeps m (toward x s) h w f i) r c j ∙ (λ k. line_round s (length_at x h w) (m.straight (suc i)) (λ j. line_sweeps i r c j k) j)

  idle_still : (r c i : ℕ) → LineIdle m x s h w f r c i → Still s (length_at x h w) m.straight (line_at x f r c) i
  idle_still r c i idle j on = sym (line_sweeps (suc i) r c j) ∙ idle j on ∙ line_sweeps i r c j

  still_idle : (r c i : ℕ) → Still s (length_at x h w) m.straight (line_at x f r c) i → LineIdle m x s h w f r c i
  still_idle r c i still j on = line_sweeps (suc i) r c j ∙ still j on ∙ sym (line_sweeps i r c j)

  -- once a round alters nothing on a line, no later one does
  line_stays_idle : Lawful m → (r c i j : ℕ) → i ≤ j → j < 1024 → LineIdle m x s h w f r c i → LineIdle m x s h w f r c j
  line_stays_idle law r c i j le top idle =
      still_idle r c j (still_stays s (length_at x h w) m.straight (straight_rises m law) (line_at x f r c) i j le top (idle_still r c i idle))

  -- a line of n pixels has no busy round after n - 1
  line_ends : Lawful m → Keyed h w f → (r c i : ℕ) → r < h → c < w → length_at x h w ≤ suc i → i < 1024 → LineIdle m x s h w f r c i
  line_ends law keyed r c i row column all top =
      still_idle r c i (still_soon s (length_at x h w) (omega arith) m.straight (far_along m x) (climb m law x) (line_at x f r c) i (keyed_line x h w f keyed r c row column) top all)

  stays : Lawful m → (i j : ℕ) → i ≤ j → j < 1024 → Idle h w (sweeps m (toward x s) h w f) i → Idle h w (sweeps m (toward x s) h w f) j
  stays law i j le top idle =
      same_lines x h w _ _ (λ r c row column. line_stays_idle law r c i j le top (same_line x h w _ _ idle r c row column))

  ends : Lawful m → Keyed h w f → 1 ≤ length_at x h w → length_at x h w ≤ 1024 → (n : ℕ) → FirstIdle h w (sweeps m (toward x s) h w f) n → n ≤ length_at x h w
  ends law keyed some fits n first =
      ⊎_elim
      (λ (p : length_at x h w < n). absurd (last (length_at x h w) refl (omega (arith, first.next))))
      (λ (p : n ≤ length_at x h w). p)
      (cases_lt (length_at x h w) n)
    where
      last : (k : ℕ) → k ≡ length_at x h w → k ≤ first.before → ⊥
      last zero e p = omega arith
      last (suc k) e p = first.busy k p (same_lines x h w _ _ (λ r c row column. line_ends law keyed r c k row column (omega arith) (omega arith)))

-- one row by itself: no other row has a part in it
pub row_stays_idle : (m : Model) (d : Direction) (h w : ℕ) (f : Image) (r i j : ℕ) → Lawful m → AlongRows d → i ≤ j → j < 1024 →
    ((c : ℕ) → c < w → sweeps m d h w f (suc i) r c ≡ sweeps m d h w f i r c) → (c : ℕ) → c < w → sweeps m d h w f (suc j) r c ≡ sweeps m d h w f j r c
row_stays_idle m d h w f r i j law level le top =
    by_row_direction (λ d. ((c : ℕ) → c < w → sweeps m d h w f (suc i) r c ≡ sweeps m d h w f i r c) → (c : ℕ) → c < w → sweeps m d h w f (suc j) r c ≡ sweeps m d h w f j r c)
    (λ s. line_stays_idle m rows s h w f law r 0 i j le top) d level

pub row_ends : (m : Model) (d : Direction) (h w : ℕ) (f : Image) (r i : ℕ) → Lawful m → AlongRows d → Keyed h w f → r < h → w ≤ suc i → i < 1024 →
    (c : ℕ) → c < w → sweeps m d h w f (suc i) r c ≡ sweeps m d h w f i r c
row_ends m d h w f r i law level keyed row all top c column =
    by_row_direction (λ d. sweeps m d h w f (suc i) r c ≡ sweeps m d h w f i r c) (λ s. line_ends m rows s h w f law keyed r c i row column all top c column) d level

-- two phases along an axis leave the least over each line
module _ (m : Model) (law : Lawful m) (x : Axis) (h w : ℕ) (some : 1 ≤ length_at x h w) (fits : length_at x h w ≤ 1024) where
  line_reaches : (f : Image) (i i' : ℕ) → Keyed h w f → i < 1024 → i' < 1024 → Idle h w (sweeps m (toward x low) h w f) i → Idle h w (sweeps m (toward x high) h w (sweeps m (toward x low) h w f (suc i))) i' →
      (r c : ℕ) → r < h → c < w → (j : ℕ) → j < length_at x h w →
      line_at x (after_two m (toward x low) (toward x high) h w f (suc i) (suc i')) r c j ≡ least (length_at x h w) (λ j'. stepped (line_at x f r c j') (far_along m x (apart j j')))
  line_reaches f i i' keyed top top' idle idle' r c row column j on =
      let n : ℕ = length_at x h w in
      let middle : Image = sweeps m (toward x low) h w f (suc i) in
      let e : line_at x middle r c ≡ line_rounds low n m.straight (line_at x f r c) (suc i) = λ k j. line_sweeps m x low h w f (suc i) r c j k in
      line_sweeps m x high h w middle (suc i') r c j ∙ (λ k. line_rounds high n m.straight (e k) (suc i') j) ∙
      both_sides n fits m.straight (far_along m x) (climb m law x) (line_at x f r c) i i' (keyed_line x h w f keyed r c row column) top top'
      (idle_still m x low h w f r c i (same_line x h w _ _ idle r c row column))
      (subst (λ (z : ℕ → ℕ). Still high n m.straight z i') e (idle_still m x high h w middle r c i' (same_line x h w _ _ idle' r c row column)))
      j on

  reaches : (f : Image) (a b : ℕ) → Keyed h w f → TwoPhases m (toward x low) (toward x high) h w f a b →
      (r c : ℕ) → r < h → c < w → (j : ℕ) → j < length_at x h w →
      line_at x (after_two m (toward x low) (toward x high) h w f a b) r c j ≡ least (length_at x h w) (λ j'. stepped (line_at x f r c j') (far_along m x (apart j j')))
  reaches f a b keyed two r c row column j on =
      let first = two.first_ends in
      let second = two.second_ends in
      let first_by = ends m x low h w f law keyed some fits a first in
      let second_by = ends m x high h w (sweeps m (toward x low) h w f a) law (sweeps_keyed m (toward x low) h w f keyed a) some fits b second in
      let idle' : Idle h w (sweeps m (toward x high) h w (sweeps m (toward x low) h w f (suc first.before))) second.before =
      subst (λ (k : ℕ). Idle h w (sweeps m (toward x high) h w (sweeps m (toward x low) h w f k)) second.before) first.next second.idle in
      (λ k. line_at x (after_two m (toward x low) (toward x high) h w f (first.next k) (second.next k)) r c j) ∙
      line_reaches f first.before second.before keyed (omega (arith, first.next)) (omega (arith, second.next)) first.idle idle' r c row column j on

pub sweeps_stay_idle : SweepsStayIdle
sweeps_stay_idle m d h w f i j law _ _ le top =
    by_direction (λ d. Idle h w (sweeps m d h w f) i → Idle h w (sweeps m d h w f) j) (λ x s. stays m x s h w f law i j le top) d

pub phase_ends : PhaseEnds
phase_ends m d h w f n law some-h tall some-w wide keyed =
    by_direction (λ d. FirstIdle h w (sweeps m d h w f) n → n ≤ line_length d h w)
    (λ x s first. subst (λ (k : ℕ). n ≤ k) (length_toward x s h w) (ends m x s h w f law keyed (some x) (fits x) n first)) d
  where
    some : (x : Axis) → 1 ≤ length_at x h w
    some columns = some-h
    some rows = some-w

    fits : (x : Axis) → length_at x h w ≤ 1024
    fits columns = tall
    fits rows = wide

pub phases_reach : PhasesReach
unfolding column_least row_least
phases_reach m h w f a b law some-h tall some-w wide keyed = (
  λ two r c row column. reaches m law columns h w some-h tall f a b keyed two r c row column r row,
  λ two r c row column. reaches m law rows h w some-w wide f a b keyed two r c row column c column,
)

row_least_same : (m : Model) (h w : ℕ) (f g : Image) → Same h w f g → Same h w (row_least m w f) (row_least m w g)
unfolding row_least
row_least_same m h w f g same r c row column =
    least_same w _ _ (λ c' column'. ap (λ (x : ℕ). stepped x (m.far (apart c c') 0)) (same r c' row column'))

pub columns_then_rows : ColumnsThenRows
unfolding row_least column_least starting
columns_then_rows m h w picture law splits tall wide r c row column =
    let over-column : ℕ → ℕ → ℕ = λ c' r'. stepped (starting w picture r' c') (m.far 0 (apart r r')) in
    let over-row : ℕ → ℕ = λ c'. stepped (least h (over-column c')) (m.far (apart c c') 0) in
    let key : ℕ = settled m h w picture r c in
    let small : key ≤ blank = settled_blank m h w picture r c in
    le_antisymm
    (le_settled m h w picture r c _ (least_blank w over-row) (λ a b row' column' air _.
    air_key _ _ _ _
    (step_on _ _ _ _ (m.far (apart c b) (apart r a)) _ (least_le w over-row b column') (least_le h (over-column b) a row') (omega (arith, parts a b row' column')))
    (cond-true _ _ _ (eq-eqb _ _ air))))
    (le_least w over-row key small (λ c' column'.
    le_stepped _ _ _
    (le_least h (over-column c') (key - m.far (apart c c') 0 * 1048576) (omega arith) (λ r' row'.
    cond_both (eqb (picture r' c') 0) _ blank (λ (x : ℕ). key - m.far (apart c c') 0 * 1048576 ≤ stepped x (m.far 0 (apart r r')))
    (λ e. step_back _ _ _ (m.far (apart c c') (apart r r')) _ (of_air _ _ _ small (settled_under m h w picture r c r' c' row' column' (eqb-true _ _ e) tt)) (omega (arith, parts r' c' row' column')))
    (λ e. omega arith)))
    small))
  where
    parts : (a b : ℕ) → a < h → b < w → m.far (apart c b) (apart r a) ≡ m.far (apart c b) 0 + m.far 0 (apart r a)
    parts a b row' column' = (law.tells_splits.0 splits).sums (apart c b) (apart r a) (omega arith) (omega arith)

    air_key : (x u F p : ℕ) → x ≤ stepped u F → u ≡ p → x ≤ F * 1048576 + p
    air_key x u F p l e = omega arith

    of_air : (x F p : ℕ) → x ≤ blank → x ≤ F * 1048576 + p → x ≤ stepped p F
    of_air x F p l k = omega arith

pub phases_settle : PhasesSettle
phases_settle m h w picture count law splits some-h tall some-w wide p =
    let start : Image = starting w picture in
    let down : Image = sweeps m North h w start p.north in
    let both : Image = sweeps m South h w down p.south in
    let right : Image = sweeps m West h w both p.west in
    let keyed : Keyed h w start = λ r c. starting_blank h w picture r c tall wide in
    let keyed-down : Keyed h w down = sweeps_keyed m North h w start keyed p.north in
    let keyed-both : Keyed h w both = sweeps_keyed m South h w down keyed-down p.south in
    let keyed-right : Keyed h w right = sweeps_keyed m West h w both keyed-both p.west in
    let by-north = phase_ends m North h w start p.north law some-h tall some-w wide keyed p.columns.first_ends in
    let by-south = phase_ends m South h w down p.south law some-h tall some-w wide keyed-down p.columns.second_ends in
    let by-west = phase_ends m West h w both p.west law some-h tall some-w wide keyed-both p.rows.first_ends in
    let by-east = phase_ends m East h w right p.east law some-h tall some-w wide keyed-right p.rows.second_ends in
    let over-columns : Same h w both (column_least m h start) = (phases_reach m h w start p.north p.south law some-h tall some-w wide keyed).0 p.columns in
    let over-rows = (phases_reach m h w both p.west p.east law some-h tall some-w wide keyed-both).1 p.rows in (
      (λ r c row column.
          over-rows r c row column ∙ row_least_same m h w both (column_least m h start) over-columns r c row column ∙ columns_then_rows m h w picture law splits tall wide r c row column),
      omega (arith, p.sum),
    )
