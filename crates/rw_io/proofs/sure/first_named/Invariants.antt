use Rattle.std.proofs.Common.{◌≡◌, drop}
use Rattle.rw_io.specs.Memory.{store_of}
use Rattle.rw_io.specs.Outside.{find_file}
use Rattle.rw_io.proofs.sure.first_named.Given as goal

abbrev pub invariant-loop-file : goal.invariant-loop-file
invariant-loop-file l = find_file (store_of l.files) l.name ≡ find_file (store_of (drop l.file-index l.files)) l.name
