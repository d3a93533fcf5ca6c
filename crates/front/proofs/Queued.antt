-- What holds of every queue.
use Rattle.std.proofs.Common.{◌≡◌, ℕ, ◌+◌, ◌-◌, ◌<◌, ◌≤◌, true, false, List, ◌∷◌, length, get_or, take, set, count_by, sym, ap, ◌∙◌, arith}
use Rattle.std.proofs.lemmas.List.{length-take-le, get_or-take, get_or-map}
use Rattle.std.proofs.lemmas.List.Sums.{count_by-le-length}
use Rattle.front.specs.declared.queue_front.QueueFront.{QueueFront}
use Rattle.front.specs.Memory.{is_set, turn, slot, slots, Live, Apart}
use Rattle.front.specs.Fronts.{queue_waits, queued, enqueued}
use Rattle.front.proofs.Marked.{is_set_no, take_set_in}
use Rattle.front.proofs.Ring.{turn_here, flag_within, room_left, live_ring, apart_ring, live_put, apart_put, count_put, slots_put, live_take, apart_take, count_take, slots_take}

-- the parts of its memory that a queue holds
abbrev pub places : QueueFront → List ℕ
places s = take s.size s.ring.now

abbrev pub flags_of : QueueFront → List ℕ
flags_of s = take s.size s.flags.now

pub places_length : (s : QueueFront) → length (places s) ≡ s.size
places_length s = length-take-le s.size s.ring.now s.fits.0

pub flags_length : (s : QueueFront) → length (flags_of s) ≡ s.size
flags_length s = length-take-le s.size s.flags.now s.fits.1

pub waiting_most : (s : QueueFront) → s.waiting ≤ s.size
waiting_most s = let m = count_by-le-length is_set (flags_of s) in omega (arith, s.counted, flags_length s)

-- where something waits
pub head_below : (s : QueueFront) → (s.waiting ≡ 0 → ⊥) → s.head < s.size
head_below s ne = let m = waiting_most s in s.within (omega arith)

pub head_in : (s : QueueFront) → s.head < s.size → s.head < length (places s)
head_in s h = omega (arith, places_length s)

pub turn_in : (s : QueueFront) (at i : ℕ) → at ≡ turn s.size i → at ≡ turn (length (places s)) i
turn_in s at i e = e ∙ ap (λ m. turn m i) (sym (places_length s))

-- a place that does not wait has room in the ring
pub flag_is : (s : QueueFront) (p : ℕ) → p < s.size → get_or (flags_of s) p 0 ≡ get_or s.flags.now p 0
flag_is s p l = get_or-take s.size s.flags.now p 0 l

pub flag_in : (s : QueueFront) (p : ℕ) → p < s.size → p < length (flags_of s)
flag_in s p l = omega (arith, flags_length s)

pub room : (s : QueueFront) (p : ℕ) → p < s.size → get_or (flags_of s) p 0 ≡ 0 → s.waiting < length (places s)
room s p l z = let r = room_left (flags_of s) p (flag_in s p l) z in omega (arith, s.counted, flags_length s, places_length s)

-- the place at the head
pub first_is : (s : QueueFront) → s.head < s.size → get_or s.ring.now s.head 0 ≡ slot (places s) s.head 0
first_is s h =
    sym (ap (λ i. get_or (places s) i 0) (turn_here (length (places s)) s.head (head_in s h)) ∙ get_or-take s.size s.ring.now s.head 0 h)

pub first_waits : (s : QueueFront) → (s.waiting ≡ 0 → ⊥) → is_set (get_or (flags_of s) (get_or s.ring.now s.head 0) 0) ≡ true
first_waits s ne = ap (λ q. is_set (get_or (flags_of s) q 0)) (first_is s (head_below s ne)) ∙ s.live 0 (omega arith)

pub first_below : (s : QueueFront) → (s.waiting ≡ 0 → ⊥) → get_or s.ring.now s.head 0 < s.size
first_below s ne = let l = flag_within (flags_of s) _ (first_waits s ne) in omega (arith, flags_length s)

-- a place that does not wait is put at the end
module _ (s : QueueFront) (p at : ℕ) (l : p < s.size) (free : get_or s.flags.now p 0 ≡ 0) (is : at ≡ turn s.size (s.head + s.waiting)) where
  head_here : s.head < length (places s)
  head_here = head_in s (s.within (omega arith))

  free_here : get_or (flags_of s) p 0 ≡ 0
  free_here = flag_is s p l ∙ free

  room_here : s.waiting < length (places s)
  room_here = room s p l free_here

  at_here : at ≡ turn (length (places s)) (s.head + s.waiting)
  at_here = turn_in s at (s.head + s.waiting) is

  ring_is : take s.size (set s.ring.now at p) ≡ set (places s) at p
  ring_is = take_set_in s.size s.ring.now at p

  flags_are : take s.size (set s.flags.now p 1) ≡ set (flags_of s) p 1
  flags_are = take_set_in s.size s.flags.now p 1

  pub live_ring_put : Live (take s.size (set s.ring.now at p)) (flags_of s) s.head s.waiting
  live_ring_put = rw ring_is (live_ring (places s) (flags_of s) s.head s.waiting at p at_here head_here room_here s.live)

  pub apart_ring_put : Apart (take s.size (set s.ring.now at p)) s.head s.waiting
  apart_ring_put = rw ring_is (apart_ring (places s) s.head s.waiting at p at_here head_here room_here s.apart)

  pub counted_put : s.waiting + 1 ≡ count_by is_set (take s.size (set s.flags.now p 1))
  counted_put = rw flags_are (ap (λ n. n + 1) s.counted ∙ sym (count_put (flags_of s) p (flag_in s p l) free_here))

  pub live_all_put : Live (take s.size (set s.ring.now at p)) (take s.size (set s.flags.now p 1)) s.head (s.waiting + 1)
  live_all_put = rw ring_is (rw flags_are (live_put (places s) (flags_of s) s.head s.waiting at p at_here head_here room_here (flag_in s p l) s.live))

  pub apart_all_put : Apart (take s.size (set s.ring.now at p)) s.head (s.waiting + 1)
  apart_all_put = rw ring_is (apart_put (places s) (flags_of s) s.head s.waiting at p at_here head_here room_here free_here s.live s.apart)

  pub queued_put : slots (take s.size (set s.ring.now at p)) s.head (s.waiting + 1) ≡ enqueued (queue_waits s) p (queued s)
  queued_put =
      let idle_here : get_or (queue_waits s) p true ≡ false = get_or-map is_set (flags_of s) p 0 true (flag_in s p l) ∙ is_set_no _ free_here in
      rw idle_here (rw ring_is (slots_put (places s) s.head s.waiting at p at_here head_here room_here))

-- the place at the head is taken
module _ (s : QueueFront) (next : ℕ) (ne : s.waiting ≡ 0 → ⊥) (is : next ≡ turn s.size (s.head + 1)) where
  abbrev pub first : ℕ
  first = get_or s.ring.now s.head 0

  first_in : first < length (flags_of s)
  first_in = flag_in s first (first_below s ne)

  head_there : s.head < length (places s)
  head_there = head_in s (head_below s ne)

  next_there : next ≡ turn (length (places s)) (s.head + 1)
  next_there = turn_in s next (s.head + 1) is

  room_there : s.waiting ≤ length (places s)
  room_there = omega (arith, waiting_most s, places_length s)

  one_less : s.waiting ≡ s.waiting - 1 + 1
  one_less = omega (arith, ne)

  flags_left : take s.size (set s.flags.now first 0) ≡ set (flags_of s) first 0
  flags_left = take_set_in s.size s.flags.now first 0

  pub counted_take : s.waiting - 1 ≡ count_by is_set (take s.size (set s.flags.now first 0))
  counted_take = let all = count_take (flags_of s) first first_in (first_waits s ne) in rw flags_left (omega (arith, s.counted, all))

  pub live_all_take : Live (places s) (take s.size (set s.flags.now first 0)) next (s.waiting - 1)
  live_all_take = rw flags_left (live_take (places s) (flags_of s) s.head next s.waiting (s.waiting - 1) first next_there head_there room_there one_less (first_is s (head_below s ne)) s.live s.apart)

  pub apart_all_take : Apart (places s) next (s.waiting - 1)
  apart_all_take = apart_take (places s) s.head next s.waiting (s.waiting - 1) next_there head_there room_there one_less s.apart

  pub queued_take : queued s ≡ first ∷ slots (places s) next (s.waiting - 1)
  queued_take = slots_take (places s) s.head next s.waiting (s.waiting - 1) first next_there head_there room_there one_less (first_is s (head_below s ne))
