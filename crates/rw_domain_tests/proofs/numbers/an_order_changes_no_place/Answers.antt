use Rattle.rw_domain_tests.proofs.numbers.an_order_changes_no_place.Goals as goal

pub invariant_of-plain-in_err-add-2 : goal.invariant_of-plain-in_err-add-2
invariant_of-plain-in_err-add-2 g c =
    let numbers = c.add.new.self in
    record { same_number = numbers.same_number; countable = numbers.countable; has_canary = numbers.has_canary; ordered = numbers.ordered }

pub invariant_of-plain-2 : goal.invariant_of-plain-2
invariant_of-plain-2 g c =
    let numbers = c.add.new.self in
    record { same_number = numbers.same_number; countable = numbers.countable; has_canary = numbers.has_canary; ordered = numbers.ordered }
