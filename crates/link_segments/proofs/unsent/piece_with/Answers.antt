use Rattle.std.proofs.Common.{arith, length-take}
use Rattle.link_segments.proofs.Giving.{full_piece, last_piece}
use Rattle.link_segments.proofs.unsent.piece_with.Goals as goal

pub returns-then-rest-le-SEGSIZE-clause-piece : goal.returns-then-rest-le-SEGSIZE-clause-piece
returns-then-rest-le-SEGSIZE-clause-piece c = last_piece c.args.begun c.args.rest.now (omega arith)

pub slice_bounds-result-end : goal.slice_bounds-result-end
slice_bounds-result-end c = omega (arith, length-take 512 c.args.rest.now)

pub returns-clause-piece : goal.returns-clause-piece
returns-clause-piece c = full_piece c.args.begun c.args.rest.now (omega arith)

pub returns-clause-short : goal.returns-clause-short
returns-clause-short c = omega (arith, length-take 512 c.args.rest.now)
