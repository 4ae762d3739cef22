use Rattle.std.proofs.Common.{◌≡◌, None, sym, ◌∙◌, subst, map, length, IfOk, IfErr}
use Rattle.asm_items.specs.Named.{named}
use Rattle.asm_items.specs.Lines.{Items}
use Rattle.rw_layout.specs.Checks.{IsFirstAt, IsRepeated, Nowhere}
use Rattle.rw_layout.specs.Keys.{AreKeyed, KeyTwice}
use Rattle.rw_layout.proofs.Defined.{first-repeated, none-repeated}
use Rattle.rw_layout.proofs.KeyFacts.{none-twice, key-within}
use Rattle.rw_layout.proofs.Used.{first-undefined, none-undefined}
use Rattle.rw_layout.proofs.Refusing.{refused-repeated, refused-undefined, refused-oversize}
use Rattle.rw_layout.proofs.program.check.Goals as goal

pub returns-in-Err-clause-refused : goal.returns-in-Err-clause-refused
returns-in-Err-clause-refused c =
    let names = c.args.names.now in
    let items = c.args.items.now in
    let lines : Items = map (named names) items in
    let ordered = c.first_misplaced.ensures.none (cc) in
    let twice : IsFirstAt (KeyTwice items) c.in-Err.line = subst (λ f. IfErr f (λ line. IsFirstAt (KeyTwice items) line)) c.in-Err.is c.in_ok-defined.ensures.twice in
    refused-repeated lines c.refused_at-in-Err.result c.in-Err.line c.refused_at-in-Err.ensures ordered (first-repeated names items c.requires.formed c.are_distinct.ensures c.in-Err.line twice)

pub returns-in-Some-first_unknown-clause-refused : goal.returns-in-Some-first_unknown-clause-refused
returns-in-Some-first_unknown-clause-refused c =
    let names = c.args.names.now in
    let items = c.args.items.now in
    let lines : Items = map (named names) items in
    let ordered = c.first_misplaced.ensures.none (cc) in
    let entries = c.in-Ok.defined.entries in
    let keyed : AreKeyed entries items (length items) = subst (λ f. IfOk f (λ d. AreKeyed d.entries items (length items))) c.in-Ok.is c.in_ok-defined.ensures.known in
    let once : Nowhere (IsRepeated lines) = none-repeated names items c.requires.formed c.are_distinct.ensures (λ p twice. none-twice entries items (length items) keyed p (key-within items p twice.1 twice.4) twice) in
    let at = first-undefined names items entries keyed c.requires.formed c.are_distinct.ensures c.has_counters-counters.result c.has_counters-counters.ensures c.in-Some-first_unknown.line (sym c.first_unknown.ensures ∙ c.in-Some-first_unknown.is) in
    refused-undefined lines c.refused_at-in-Some-first_unknown.result c.in-Some-first_unknown.line c.refused_at-in-Some-first_unknown.ensures ordered once at

pub returns-in-Some-first_oversize-clause-refused : goal.returns-in-Some-first_oversize-clause-refused
returns-in-Some-first_oversize-clause-refused c =
    let names = c.args.names.now in
    let items = c.args.items.now in
    let lines : Items = map (named names) items in
    let ordered = c.first_misplaced.ensures.none (cc) in
    let entries = c.in-Ok.defined.entries in
    let keyed : AreKeyed entries items (length items) = subst (λ f. IfOk f (λ d. AreKeyed d.entries items (length items))) c.in-Ok.is c.in_ok-defined.ensures.known in
    let once : Nowhere (IsRepeated lines) = none-repeated names items c.requires.formed c.are_distinct.ensures (λ p twice. none-twice entries items (length items) keyed p (key-within items p twice.1 twice.4) twice) in
    let none : c.first_unknown.result ≡ None = cc in
    let defined = none-undefined names items entries keyed c.requires.formed c.are_distinct.ensures c.has_counters-counters.result c.has_counters-counters.ensures (sym c.first_unknown.ensures ∙ none) in
    refused-oversize lines c.refused_at-in-Some-first_oversize.result c.in-Some-first_oversize.line c.refused_at-in-Some-first_oversize.ensures ordered once defined (c.in-Some-first_oversize.ensures.found names)

pub returns-clause-program : goal.returns-clause-program
returns-clause-program c =
    let names = c.args.names.now in
    let items = c.args.items.now in
    let entries = c.in-Ok.defined.entries in
    let keyed : AreKeyed entries items (length items) = subst (λ f. IfOk f (λ d. AreKeyed d.entries items (length items))) c.in-Ok.is c.in_ok-defined.ensures.known in
    let none : c.first_unknown.result ≡ None = cc in
    record {
      ordered = c.first_misplaced.ensures.none (cc);
      once = none-repeated names items c.requires.formed c.are_distinct.ensures (λ p twice. none-twice entries items (length items) keyed p (key-within items p twice.1 twice.4) twice);
      defined = none-undefined names items entries keyed c.requires.formed c.are_distinct.ensures c.has_counters-counters.result c.has_counters-counters.ensures (sym c.first_unknown.ensures ∙ none);
      fits = c.first_oversize.ensures.none (cc) names;
    }
