-- What is read of lines is true.
use Rattle.std.proofs.Common.{◌≡◌, ℕ, zero, suc, ◌+◌, ◌<◌, Bool, true, false, cond, ltb, List, [], ◌∷◌, length, get_or, is_some, Some, None, Ok, Err, codes, Option, Result, refl, ap, ◌∙◌, inl, inr, arith}
use Rattle.std.specs.Str.{bytes_eq}
use Rattle.std.proofs.lemmas.Bool.Decides.{nat_tests}
use Rattle.sheet.specs.declared.refusal.Refusal.TheVariants.{BadSize}
use Rattle.words.specs.declared.call.Call.{Call}
use Rattle.words.specs.declared.values.Values.{Values}
use Rattle.reader.specs.declared.list.Entry.{Entry}
use Rattle.reader.specs.declared.list.Fault.{Fault}
use Rattle.words.specs.Calls.{on}
use Rattle.words.specs.Values.{values_in}
use Rattle.reader.specs.Lists.{Line, ended, unended, past_names, past_values, call_on, fault, faulty, or_fault, unless, call_fault, entry_before, entries_from, bad_size, RunList, list_in, lines_of}
use Rattle.reader.specs.Laws.{sound, line_after, FirstFault, AllSound, ReadTrue, ListsReadTrue}
use Rattle.std.proofs.lemmas.Bool.{cond-true}
use Rattle.reader.proofs.Accepting.{in_short}

-- every line from number k on is a call, with its entry
record GoodCalls (k : ℕ) (lines : List Line) (entries : List Entry) : Type 0 where
  each : (n : ℕ) → n < length lines → is_some (call_on (line_after n lines)) ≡ true
  count : length entries ≡ length lines
  numbers : (n : ℕ) (d : Entry) → n < length entries → (get_or entries n d).line ≡ n + k
  calls : (n : ℕ) (d : Entry) → n < length entries → call_on (line_after n lines) ≡ Some (get_or entries n d).call

-- the first line from number k on that is no call
record BadCall (k : ℕ) (lines : List Line) (due : Fault) : Type 0 where
  before : ℕ
  within : before < length lines
  is : due ≡ faulty (before + k)
  bad : is_some (call_on (line_after before lines)) ≡ false
  earlier : (n : ℕ) → n < before → is_some (call_on (line_after n lines)) ≡ true

abbrev CallsTrue : ℕ → List Line → Option Fault → List Entry → Type 0
CallsTrue k lines None entries = GoodCalls k lines entries
CallsTrue k lines (Some due) entries = BadCall k lines due

-- one more line before those of which something holds
one_more : (line : Line) (lines : List Line) (m : ℕ) → is_some (call_on line) ≡ true → ((n : ℕ) → n < m → is_some (call_on (line_after n lines)) ≡ true) → (n : ℕ) → n < suc m → is_some (call_on (line_after n (line ∷ lines))) ≡ true
one_more line lines m here more zero h = here
one_more line lines m here more (suc n) h = more n (omega arith)

module _ (k : ℕ) (line : Line) (lines : List Line) (call : Call) (is : call_on line ≡ Some call) where
  abbrev entry : Entry
  entry = record { line = k; call = call }

  number_more : (entries : List Entry) → ((n : ℕ) (d : Entry) → n < length entries → (get_or entries n d).line ≡ n + (k + 1)) → (n : ℕ) (d : Entry) → n < suc (length entries) → (get_or (entry ∷ entries) n d).line ≡ n + k
  number_more entries more zero d h = omega arith
  number_more entries more (suc n) d h = omega (arith, more n d (omega arith))

  call_more : (entries : List Entry) → ((n : ℕ) (d : Entry) → n < length entries → call_on (line_after n lines) ≡ Some (get_or entries n d).call) → (n : ℕ) (d : Entry) → n < suc (length entries) → call_on (line_after n (line ∷ lines)) ≡ Some (get_or (entry ∷ entries) n d).call
  call_more entries more zero d h = is
  call_more entries more (suc n) d h = more n d (omega arith)

  calls_more : (o : Option Fault) (entries : List Entry) → CallsTrue (k + 1) lines o entries → CallsTrue k (line ∷ lines) o (entry ∷ entries)
  calls_more None entries good = record { each = one_more line lines (length lines) (ap is_some is) good.each; count = ap suc good.count; numbers = number_more entries good.numbers; calls = call_more entries good.calls }
  calls_more (Some due) entries bad =
      let at : bad.before + (k + 1) ≡ suc bad.before + k = omega arith in
      record { before = suc bad.before; within = omega (arith, bad.within); is = bad.is ∙ ap faulty at; bad = bad.bad; earlier = one_more line lines bad.before (ap is_some is) bad.earlier }

calls_by : (o : Option Call) (k : ℕ) (line : Line) (lines : List Line) → call_on line ≡ o → CallsTrue (k + 1) lines (call_fault (k + 1) lines) (entries_from (k + 1) lines) → CallsTrue k (line ∷ lines) (cond (is_some o) (call_fault (k + 1) lines) (Some (faulty k))) (entry_before k o (entries_from (k + 1) lines))
calls_by None k line lines is more =
    let at : k ≡ 0 + k = omega arith in
    record { before = 0; within = omega arith; is = ap faulty at; bad = ap is_some is; earlier = λ n h. absurd (omega arith) }
calls_by (Some call) k line lines is more = calls_more k line lines call is (call_fault (k + 1) lines) (entries_from (k + 1) lines) more

calls_true : (k : ℕ) (lines : List Line) → CallsTrue k lines (call_fault k lines) (entries_from k lines)
calls_true k [] = record { each = λ n h. absurd (omega arith); count = refl; numbers = λ n d h. absurd (omega arith); calls = λ n d h. absurd (omega arith) }
calls_true k (line ∷ lines) = calls_by (call_on line) k line lines refl (calls_true (k + 1) lines)

-- a fault of one of the first three lines
fault_at : (n : ℕ) (lines : List Line) → n < 3 → sound n (line_after n lines) ≡ false → ((m : ℕ) → m < n → sound m (line_after m lines) ≡ true) → FirstFault lines (faulty (n + 1))
fault_at n lines h bad earlier = record { before = n; within = omega arith; is = refl; bad = bad; earlier = earlier }

-- with the first three lines sound
module _ (a b c : List ℕ) (calls : List Line) (values : Values)
    (first : bytes_eq a (codes "width,height,metric") ≡ true)
    (second : values_in b ≡ Some values)
    (third : bytes_eq c (codes "call,row,column,order") ≡ true) where
  abbrev all : List Line
  all = ended a ∷ ended b ∷ ended c ∷ calls

  sound_more : (m : ℕ) → ((n : ℕ) → n < m → is_some (call_on (line_after n calls)) ≡ true) → (n : ℕ) → n < suc (suc (suc m)) → sound n (line_after n all) ≡ true
  sound_more m more zero h = first
  sound_more m more (suc zero) h = ap is_some second
  sound_more m more (suc (suc zero)) h = third
  sound_more m more (suc (suc (suc n))) h = more n (omega arith)

  all_sound : ((n : ℕ) → n < length calls → is_some (call_on (line_after n calls)) ≡ true) → AllSound all values
  all_sound more = record { each = λ n h. sound_more (length calls) more n (omega arith); second = second }

  call_after : (n : ℕ) → call_on (line_after (n + 3) all) ≡ call_on (line_after n calls)
  call_after n = let e : n + 3 ≡ suc (suc (suc n)) = omega arith in ap (λ i. call_on (line_after i all)) e

  size_by : (t : Bool) (entries : List Entry) → bad_size values ≡ t → GoodCalls 4 calls entries → ReadTrue all (cond t (Err (fault BadSize 2)) (Ok (record { values = values; entries = entries })))
  size_by true entries is good = inr (record { values = values; lines_sound = all_sound good.each; size = is; is = refl })
  size_by false entries is good = record { lines_sound = all_sound good.each; size = is; count = omega (arith, good.count); numbers = good.numbers; calls = λ n d h. call_after n ∙ good.calls n d h }

  calls_judged : (o : Option Fault) (entries : List Entry) → CallsTrue 4 calls o entries → ReadTrue all (unless o (cond (bad_size values) (Err (fault BadSize 2)) (Ok (record { values = values; entries = entries }))))
  calls_judged None entries good = size_by (bad_size values) entries refl good
  calls_judged (Some due) entries bad =
      let at : bad.before + 4 ≡ suc (suc (suc bad.before)) + 1 = omega arith in
      inl (record { before = suc (suc (suc bad.before)); within = omega (arith, bad.within); is = bad.is ∙ ap faulty at; bad = bad.bad; earlier = sound_more bad.before bad.earlier })

  judged : ReadTrue all (unless (call_fault 4 calls) (cond (bad_size values) (Err (fault BadSize 2)) (Ok (record { values = values; entries = entries_from 4 calls }))))
  judged = calls_judged (call_fault 4 calls) (entries_from 4 calls) (calls_true 4 calls)

-- what is read after the values
abbrev from_third : Values → List Line → Result RunList Fault
from_third values lines =
    or_fault (past_names (codes "call,row,column,order") lines) (faulty 3) (λ lines.
    unless (call_fault 4 lines)
    (cond (bad_size values) (Err (fault BadSize 2)) (Ok (record { values = values; entries = entries_from 4 lines }))))

-- what is read after the first line
abbrev from_second : List Line → Result RunList Fault
from_second lines = or_fault (past_values lines) (faulty 2) (λ found. from_third found.0 found.1)

module _ (a b : List ℕ) (values : Values)
    (first : bytes_eq a (codes "width,height,metric") ≡ true)
    (second : values_in b ≡ Some values) where
  two_before : (lines : List Line) (m : ℕ) → m < 2 → sound m (line_after m (ended a ∷ ended b ∷ lines)) ≡ true
  two_before lines zero h = first
  two_before lines (suc zero) h = ap is_some second
  two_before lines (suc (suc m)) h = absurd (omega arith)

  third_by : (t : Bool) (c : List ℕ) (lines : List Line) → bytes_eq c (codes "call,row,column,order") ≡ t → ReadTrue (ended a ∷ ended b ∷ ended c ∷ lines) (or_fault (cond t (Some lines) None) (faulty 3) (λ lines. unless (call_fault 4 lines) (cond (bad_size values) (Err (fault BadSize 2)) (Ok (record { values = values; entries = entries_from 4 lines })))))
  third_by true c lines is = judged a b c lines values first second is
  third_by false c lines is = inl (fault_at 2 (ended a ∷ ended b ∷ ended c ∷ lines) (omega arith) is (two_before (ended c ∷ lines)))

  from_third_true : (lines : List Line) → ReadTrue (ended a ∷ ended b ∷ lines) (from_third values lines)
  from_third_true [] = inl (fault_at 2 (ended a ∷ ended b ∷ []) (omega arith) refl (two_before []))
  from_third_true (unended c ∷ lines) = inl (fault_at 2 (ended a ∷ ended b ∷ unended c ∷ lines) (omega arith) refl (two_before (unended c ∷ lines)))
  from_third_true (ended c ∷ lines) = third_by (bytes_eq c (codes "call,row,column,order")) c lines refl

module _ (a : List ℕ) (first : bytes_eq a (codes "width,height,metric") ≡ true) where
  one_before : (lines : List Line) (m : ℕ) → m < 1 → sound m (line_after m (ended a ∷ lines)) ≡ true
  one_before lines zero h = first
  one_before lines (suc m) h = absurd (omega arith)

  second_by : (found : Option Values) (b : List ℕ) (lines : List Line) → values_in b ≡ found → ReadTrue (ended a ∷ ended b ∷ lines) (or_fault (on {B = Values × List Line} found (λ values. Some (values, lines))) (faulty 2) (λ found. from_third found.0 found.1))
  second_by (Some values) b lines is = from_third_true a b values first is lines
  second_by None b lines is = inl (fault_at 1 (ended a ∷ ended b ∷ lines) (omega arith) (ap is_some is) (one_before (ended b ∷ lines)))

  from_second_true : (lines : List Line) → ReadTrue (ended a ∷ lines) (from_second lines)
  from_second_true [] = inl (fault_at 1 (ended a ∷ []) (omega arith) refl (one_before []))
  from_second_true (unended b ∷ lines) = inl (fault_at 1 (ended a ∷ unended b ∷ lines) (omega arith) refl (one_before (unended b ∷ lines)))
  from_second_true (ended b ∷ lines) = second_by (values_in b) b lines refl

first_by : (t : Bool) (a : List ℕ) (lines : List Line) → bytes_eq a (codes "width,height,metric") ≡ t → ReadTrue (ended a ∷ lines) (or_fault (cond t (Some lines) None) (faulty 1) from_second)
first_by true a lines is = from_second_true a is lines
first_by false a lines is = inl (fault_at 0 (ended a ∷ lines) (omega arith) is (λ m h. absurd (omega arith)))

list_true : (lines : List Line) → ReadTrue lines (list_in lines)
list_true [] = inl (fault_at 0 [] (omega arith) refl (λ m h. absurd (omega arith)))
list_true (unended a ∷ lines) = inl (fault_at 0 (unended a ∷ lines) (omega arith) refl (λ m h. absurd (omega arith)))
list_true (ended a ∷ lines) = first_by (bytes_eq a (codes "width,height,metric")) a lines refl

long : (n : ℕ) → 16384 < n → ltb 16384 n ≡ true
long n h = grind (arith, nat_tests)

pub lists_read_true : ListsReadTrue
lists_read_true text = (λ h. cond-true _ _ _ (long (length text) h), λ h. rw (in_short text h) (list_true (lines_of text)))
