use Rattle.rw_make.proofs.Standing.{contents_stand, name_stands, header_stands}
use Rattle.rw_make.proofs.laws.sections_stand_where_headers_say.Goals as goal

pub returns : goal.returns
returns c = record { contents = contents_stand; name = name_stands; header = header_stands }
