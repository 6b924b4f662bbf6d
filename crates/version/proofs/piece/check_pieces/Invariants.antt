use Rattle.std.proofs.Common.{◌≡◌, drop}
use Rattle.model.specs.Bytes.{all}
use Rattle.version.proofs.piece.check_pieces.Given as goal

abbrev pub invariant-loop-piece : goal.invariant-loop-piece
invariant-loop-piece g l = all (g.T.Piece.good l.block) (drop l.piece-index l.pieces) ≡ all (g.T.Piece.good l.block) l.pieces
