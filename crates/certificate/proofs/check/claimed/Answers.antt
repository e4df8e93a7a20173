use Rattle.std.proofs.Common.{◌≡◌, sym, ◌∙◌, rules}
use Rattle.std.specs.Prelude.{None}
use Rattle.groups.specs.Row.{row_of}
use Rattle.certificate.proofs.Claimed.{claimed_some, claimed_none}
use Rattle.certificate.proofs.check.claimed.Goals as goal

pub returns-in_err-closing : goal.returns-in_err-closing
returns-in_err-closing c =
    let e : c.from_residual.result ≡ None = search rules in
    e ∙ sym (claimed_none (row_of c.args.points.now) c.args.claim (sym c.closing.ensures ∙ c.in_err-closing.was))

pub returns : goal.returns
returns c =
    c.then_some.ensures ∙ claimed_some (row_of c.args.points.now) c.args.claim c.in_ok-closing.closing (sym c.closing.ensures ∙ c.in_ok-closing.was) c.closing_so.ensures
