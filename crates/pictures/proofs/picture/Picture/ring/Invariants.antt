use Rattle.std.proofs.Common.{◌/◌, ◌%◌}
use Rattle.pictures.specs.Bytes.{HasBytes, ring_byte}
use Rattle.pictures.proofs.picture.Picture.ring.Given as goal

abbrev pub invariant-loop-place : goal.invariant-loop-place
invariant-loop-place l = HasBytes l.bytes.items l.place (λ k. ring_byte (k / 96) (k % 96))
