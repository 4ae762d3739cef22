use Rattle.rw_machine_tests.proofs.replies.bytes_of_an_answer_are_written.Goals as goal

pub invariant_of-state-in_err-vec-3 : goal.invariant_of-state-in_err-vec-3
invariant_of-state-in_err-vec-3 g c =
    let domain = c.in_ok-state.state.domain in
    record { same_number = domain.same_number; countable = domain.countable; has_canary = domain.has_canary; ordered = domain.ordered }
