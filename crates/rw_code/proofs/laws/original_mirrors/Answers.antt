use Rattle.rw_code.proofs.Clean.{are-functions}
use Rattle.rw_code.proofs.Mirrors.{original-mirrors}
use Rattle.rw_code.proofs.laws.original_mirrors.Goals as goal

pub returns : goal.returns
returns c file file_ground elf functions points references fits = original-mirrors file file_ground elf (are-functions file elf functions points) references fits
