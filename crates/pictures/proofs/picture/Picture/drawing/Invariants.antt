use Rattle.std.proofs.Common.{◌≡◌, string_bytes}
use Rattle.pictures.specs.Bytes.{lines_of}
use Rattle.pictures.proofs.picture.Picture.drawing.Given as goal

abbrev pub invariant-loop-pair : goal.invariant-loop-pair
invariant-loop-pair l = string_bytes l.text ≡ lines_of l.self.size.width l.self.bytes.items l.pair
