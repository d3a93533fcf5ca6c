-- The directional order: four phases, each of which moves keys one way, and what is shown of it.
use Rattle.std.specs.Prelude.{◌≡◌, ℕ, zero, suc, ◌+◌, ◌-◌, ◌*◌, ◌<◌, ◌≤◌, min, true, cond, nat_lt}
use Rattle.sheet.specs.declared.direction.Direction.{Direction}
use Rattle.sheet.specs.declared.direction.Direction.TheVariants.{North, South, West, East}
use Rattle.sheet.specs.Pixels.{apart}
use Rattle.sheet.specs.Keys.{blank, stepped}
use Rattle.sheet.specs.Images.{Image, Same, least}
use Rattle.metric.specs.Model.{Model}
use Rattle.metric.specs.Laws.{Lawful}
use Rattle.transform.specs.Settled.{settled}
use Rattle.transform.specs.Erosion.{starting, Idle, FirstIdle}

-- the key of the neighbour that lies in a direction; blank off the sheet
abbrev pub neighbour_key : Direction → ℕ → ℕ → Image → Image
neighbour_key North h w f r c = cond (nat_lt 0 r) (f (r - 1) c) blank
neighbour_key South h w f r c = cond (nat_lt (r + 1) h) (f (r + 1) c) blank
neighbour_key West h w f r c = cond (nat_lt 0 c) (f r (c - 1)) blank
neighbour_key East h w f r c = cond (nat_lt (c + 1) w) (f r (c + 1)) blank

-- the directional erosion equation: the least of the own key and that neighbour's stepped
unfoldable pub swept : Direction → ℕ → ℕ → ℕ → Image → Image
swept d h w straight f r c = min (f r c) (stepped (neighbour_key d h w f r c) straight)

-- the image after i rounds of a phase, which begins from f at level 1
unfoldable pub sweeps : Model → Direction → ℕ → ℕ → Image → ℕ → Image
sweeps m d h w f zero = f
sweeps m d h w f (suc i) = swept d h w (m.straight (suc i)) (sweeps m d h w f i)

-- how many pixels a line has along which a direction runs
abbrev pub line_length : Direction → ℕ → ℕ → ℕ
line_length North h w = h
line_length South h w = h
line_length West h w = w
line_length East h w = w

-- a direction that runs along the rows
abbrev pub AlongRows : Direction → Type 0
AlongRows North = ⊥
AlongRows South = ⊥
AlongRows West = Unit {0}
AlongRows East = Unit {0}

-- two phases, one after the other, from f: each takes so many rounds up to and with its first idle one
pub record TwoPhases (m : Model) (d e : Direction) (h w : ℕ) (f : Image) (first second : ℕ) : Type 0 where
  pub first_ends : FirstIdle h w (sweeps m d h w f) first
  pub second_ends : FirstIdle h w (sweeps m e h w (sweeps m d h w f first)) second

-- the image that they leave
abbrev pub after_two : Model → Direction → Direction → ℕ → ℕ → Image → ℕ → ℕ → Image
after_two m d e h w f first second = sweeps m e h w (sweeps m d h w f first) second

-- the four phases of a picture, in this order, and the count of their rounds
pub record Phases (m : Model) (h w : ℕ) (picture : Image) (count : ℕ) : Type 0 where
  pub north : ℕ
  pub south : ℕ
  pub west : ℕ
  pub east : ℕ
  pub columns : TwoPhases m North South h w (starting w picture) north south
  pub rows : TwoPhases m West East h w (after_two m North South h w (starting w picture) north south) west east
  pub sum : count ≡ north + south + west + east

-- the least over a pixel's column, and over its row, of keys stepped by far of the offset
unfoldable pub column_least : Model → ℕ → Image → Image
column_least m h f r c = least h (λ r'. stepped (f r' c) (m.far 0 (apart r r')))

unfoldable pub row_least : Model → ℕ → Image → Image
row_least m w f r c = least w (λ c'. stepped (f r c') (m.far (apart c c') 0))

-- an image holds keys: numbers up to blank
abbrev pub Keyed : ℕ → ℕ → Image → Type 0
Keyed h w f = (r c : ℕ) → r < h → c < w → f r c ≤ blank

-- once a directional round alters nothing, no later one of its phase does
abbrev pub SweepsStayIdle : Type 0
SweepsStayIdle = (m : Model) (d : Direction) (h w : ℕ) (f : Image) (i j : ℕ) → Lawful m → h ≤ 1024 → w ≤ 1024 → i ≤ j → j < 1024 → Idle h w (sweeps m d h w f) i → Idle h w (sweeps m d h w f) j

-- a phase along lines of n pixels ends by round n
abbrev pub PhaseEnds : Type 0
PhaseEnds = (m : Model) (d : Direction) (h w : ℕ) (f : Image) (n : ℕ) → Lawful m → 1 ≤ h → h ≤ 1024 → 1 ≤ w → w ≤ 1024 → Keyed h w f → FirstIdle h w (sweeps m d h w f) n → n ≤ line_length d h w

-- the phases from north and south leave the least over the column, those from west and east the least over the row
abbrev pub PhasesReach : Type 0
PhasesReach = (m : Model) (h w : ℕ) (f : Image) (a b : ℕ) → Lawful m → 1 ≤ h → h ≤ 1024 → 1 ≤ w → w ≤ 1024 → Keyed h w f →
    (TwoPhases m North South h w f a b → Same h w (after_two m North South h w f a b) (column_least m h f)) × (TwoPhases m West East h w f a b → Same h w (after_two m West East h w f a b) (row_least m w f))

-- from the starting image, by a metric that splits, first over the columns and then over the rows is the settled image
abbrev pub ColumnsThenRows : Type 0
ColumnsThenRows = (m : Model) (h w : ℕ) (picture : Image) → Lawful m → m.splits ≡ true → h ≤ 1024 → w ≤ 1024 → Same h w (row_least m w (column_least m h (starting w picture))) (settled m h w picture)

-- the four phases leave the settled image, and count at most 2 * (w + h) rounds
abbrev pub PhasesSettle : Type 0
PhasesSettle = (m : Model) (h w : ℕ) (picture : Image) (count : ℕ) → Lawful m → m.splits ≡ true → 1 ≤ h → h ≤ 1024 → 1 ≤ w → w ≤ 1024 → (p : Phases m h w picture count) →
    Same h w (after_two m West East h w (after_two m North South h w (starting w picture) p.north p.south) p.west p.east) (settled m h w picture) × (count ≤ 2 * (w + h))
