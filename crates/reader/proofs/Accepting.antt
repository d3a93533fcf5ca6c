-- A text whose lines are all sound.
use Rattle.std.proofs.Common.{◌≡◌, ℕ, ◌≤◌, Bool, true, false, cond, ltb, List, [], ◌∷◌, length, drop, Some, None, Ok, codes, Option, Result, sym, refl, ap, ◌∙◌, arith}
use Rattle.std.specs.Str.{bytes_eq}
use Rattle.std.proofs.lemmas.List.{drop-drop}
use Rattle.std.proofs.lemmas.Bool.Decides.{nat_tests}
use Rattle.words.specs.declared.values.Values.{Values}
use Rattle.reader.specs.declared.list.Fault.{Fault}
use Rattle.words.specs.Calls.{on}
use Rattle.words.specs.Values.{values_in}
use Rattle.reader.specs.Lists.{Line, ended, unended, past_names, past_values, unless, call_fault, entries_from, lines_of, bad_size, list_in, list_of}
use Rattle.std.proofs.lemmas.Bool.{cond-false}

same_by : (t : Bool) (lines after : List Line) → cond t (Some lines) None ≡ Some after → lines ≡ after
same_by true lines after e = cc
same_by false lines after e = let z : ◌≡◌ {A = ℕ} 0 1 = cc in absurd (omega arith)

pub one_past_names : (names : List ℕ) (lines after : List Line) → past_names names lines ≡ Some after → drop 1 lines ≡ after
one_past_names names [] after e = let z : ◌≡◌ {A = ℕ} 0 1 = cc in absurd (omega arith)
one_past_names names (ended bytes ∷ lines) after e = same_by (bytes_eq bytes names) lines after e
one_past_names names (unended bytes ∷ lines) after e = let z : ◌≡◌ {A = ℕ} 0 1 = cc in absurd (omega arith)

found_by : (found : Option Values) (lines : List Line) (values : Values) (after : List Line) → on {B = Values × List Line} found (λ v. Some (v, lines)) ≡ Some (values, after) → lines ≡ after
found_by None lines values after e = let z : ◌≡◌ {A = ℕ} 0 1 = cc in absurd (omega arith)
found_by (Some v) lines values after e = let same : ◌≡◌ {A = Values × List Line} (v, lines) (values, after) = cc in ap (λ (p : Values × List Line). p.1) same

pub one_past_values : (lines : List Line) (values : Values) (after : List Line) → past_values lines ≡ Some (values, after) → drop 1 lines ≡ after
one_past_values [] values after e = let z : ◌≡◌ {A = ℕ} 0 1 = cc in absurd (omega arith)
one_past_values (ended bytes ∷ lines) values after e = found_by (values_in bytes) lines values after e
one_past_values (unended bytes ∷ lines) values after e = let z : ◌≡◌ {A = ℕ} 0 1 = cc in absurd (omega arith)

-- the lines after names, values and names are those from line 4 on
pub three_past : (lines second : List Line) (values : Values) (third calls : List Line)
    → past_names (codes "width,height,metric") lines ≡ Some second
    → past_values second ≡ Some (values, third)
    → past_names (codes "call,row,column,order") third ≡ Some calls
    → calls ≡ drop 3 lines
three_past lines second values third calls p q r =
    let one = one_past_names _ lines second p in
    let two = one_past_values second values third q in
    let three = one_past_names _ third calls r in
    sym (sym (drop-drop 2 1 lines) ∙ ap (drop 2) one ∙ sym (drop-drop 1 1 second) ∙ ap (drop 1) two ∙ three)

pub no_fault : (o : Option Fault) → ◌≡◌ {A = Result (Unit {0}) Fault} (Ok tt) (unless o (Ok tt)) → o ≡ None
no_fault None e = refl
no_fault (Some due) e = let z : ◌≡◌ {A = ℕ} 0 1 = cc in absurd (omega arith)

short : (n : ℕ) → n ≤ 16384 → ltb 16384 n ≡ false
short n h = grind (arith, nat_tests)

-- the length of a text comes first
pub in_short : (text : List ℕ) → length text ≤ 16384 → list_of text ≡ list_in (lines_of text)
in_short text h = cond-false _ _ _ (short (length text) h)

-- a list whose lines are all sound
pub accepted : (text : List ℕ) (second : List Line) (values : Values) (third calls : List Line)
    → length text ≤ 16384
    → past_names (codes "width,height,metric") (lines_of text) ≡ Some second
    → past_values second ≡ Some (values, third)
    → past_names (codes "call,row,column,order") third ≡ Some calls
    → call_fault 4 calls ≡ None
    → bad_size values ≡ false
    → Ok (record { values = values; entries = entries_from 4 calls }) ≡ list_of text
accepted text second values third calls fits p q r sound size =
    let read : list_in (lines_of text) ≡ Ok (record { values = values; entries = entries_from 4 calls }) = rw (p, q, r, sound, size) in
    sym (in_short text fits ∙ read)
