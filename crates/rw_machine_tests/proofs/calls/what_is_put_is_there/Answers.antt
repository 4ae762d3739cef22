use Rattle.rw_machine_tests.proofs.calls.what_is_put_is_there.Goals as goal

pub invariant_of-state-2 : goal.invariant_of-state-2
invariant_of-state-2 g c =
    let domain = c.step-2.new.state.domain in
    record { same_number = domain.same_number; countable = domain.countable; has_canary = domain.has_canary; ordered = domain.ordered }
