use Rattle.std.proofs.Common.{◌+◌, ◌≤◌, ◌++◌, length, take, arith}
use Rattle.std.proofs.KnownBytes.{Consumes-trans}
use Rattle.std.proofs.lemmas.Grind.{common_steps}
use Rattle.rw_io.proofs.os.read_up_to.Goals as goal

-- the piece that found no memory was taken from the reader all the same
pub returns-then-is_err : goal.returns-then-is_err
returns-then-is_err g c =
    let before = c.loop-piece.bytes.items in
    let piece = take c.in-Ok.count c.read.new.buf in
    let within : length (before ++ piece) ≤ c.args.limit + 1 = grind (arith, common_steps) in
    (before ++ piece, within, Consumes-trans _ _ _ before piece c.loop-piece.invariant.taken c.in-Ok.ensures.bytes.0)
