use Rattle.rw_machine_tests.proofs.cases.check.Goals as goal

pub invariant_of-state-2 : goal.invariant_of-state-2
invariant_of-state-2 g c =
    let domain = c.run.new.state.domain in
    record { same_number = domain.same_number; countable = domain.countable; has_canary = domain.has_canary; ordered = domain.ordered }
