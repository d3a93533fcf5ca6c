-- What the two fronts mean, and the queue's order.
use Rattle.std.specs.Prelude.{◌≡◌, ℕ, Bool, true, cond, List, [], ◌∷◌, ◌++◌, take, drop, slice_index_or}
use Rattle.front.specs.declared.mark_front.MarkFront.{MarkFront}
use Rattle.front.specs.declared.queue_front.QueueFront.{QueueFront}
use Rattle.front.specs.Memory.{marked, slots}

-- which places of a mark front wait, and what lies past them in its memory
abbrev pub mark_waits : MarkFront → List Bool
mark_waits f = marked f.size f.marks.now

abbrev pub mark_rest : MarkFront → List ℕ
mark_rest f = drop f.size f.marks.now

-- a mark front stays in its memory: with its size, and with what lies past its places
pub record MarkStays (f f' : MarkFront) : Type 0 where
  pub size : f'.size ≡ f.size
  pub lender : f'.marks.ghost_name ≡ f.marks.ghost_name
  pub rest : mark_rest f' ≡ mark_rest f

-- which places of a queue wait, and what lies past them in its two memories
abbrev pub queue_waits : QueueFront → List Bool
queue_waits f = marked f.size f.flags.now

abbrev pub flags_rest : QueueFront → List ℕ
flags_rest f = drop f.size f.flags.now

abbrev pub ring_rest : QueueFront → List ℕ
ring_rest f = drop f.size f.ring.now

-- a queue stays in its memories: with its size, and with what lies past its places
pub record QueueStays (f f' : QueueFront) : Type 0 where
  pub size : f'.size ≡ f.size
  pub ring_lender : f'.ring.ghost_name ≡ f.ring.ghost_name
  pub ring_rest : ring_rest f' ≡ ring_rest f
  pub flags_lender : f'.flags.ghost_name ≡ f.flags.ghost_name
  pub flags_rest : flags_rest f' ≡ flags_rest f

-- the waiting places of a queue in the order put
abbrev pub queued : QueueFront → List ℕ
queued f = slots (take f.size f.ring.now) f.head f.waiting

-- the queue after a put: a place that is there and does not wait comes last
abbrev pub enqueued : List Bool → ℕ → List ℕ → List ℕ
enqueued ws p ps = cond (slice_index_or ws p true) ps (ps ++ p ∷ [])
