use Rattle.rw_machine_tests.proofs.replies.a_fresh_region_has_its_size.Goals as goal

pub invariant_of-state-2 : goal.invariant_of-state-2
invariant_of-state-2 g c =
    let domain = c.step-3.new.state.domain in
    record { same_number = domain.same_number; countable = domain.countable; has_canary = domain.has_canary; ordered = domain.ordered }
