use Rattle.std.proofs.Common.{◌≡◌, true}
use Rattle.rw_machine.specs.Domains.{symbols, numbers}
use Rattle.rw_runs.proofs.Blocks.{made-blocks}
use Rattle.rw_runs.proofs.laws.blocks_follow.Goals as goal

pub returns : goal.returns
returns g c p q alike cost one n r o h = made-blocks symbols numbers p q (λ s t. alike s t ≡ true) cost one n r o h
