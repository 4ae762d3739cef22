use Rattle.rw_layout.proofs.ExampleLaid.{example-laid, example-program, example-room}
use Rattle.rw_layout.proofs.laws.example_has_layouts.Goals as goal

pub returns-clause-program : goal.returns-clause-program
returns-clause-program c = example-program

pub returns-clause-room : goal.returns-clause-room
returns-clause-room c = example-room

pub returns-clause-layouts : goal.returns-clause-layouts
returns-clause-layouts c = example-laid
