-- Each test is one of those that are looked at.
use Rattle.std.proofs.Common.{◌≡◌, ◌+◌, ◌*◌, sym, ap, ◌∙◌, arith}
use Rattle.layouts.proofs.Around.{front_of, echo_is, not_as_long, other_front, by_the_echo}
use Rattle.layouts.proofs.Layout.is_of.Goals as goal

pub returns-then-bytes-size : goal.returns-then-bytes-size
returns-then-bytes-size c =
    not_as_long c.args.bytes.now (λ k. (c.type_inv.bytes k).fits) c.args.self (omega arith)
    (λ is. c.if-bytes-size.true (is ∙ sym c.size-size.ensures))

pub returns-then-number_at-front : goal.returns-then-number_at-front
returns-then-number_at-front c =
    let front : c.header_of.result + 65536 * c.args.self.item ≡ front_of c.args.self = cc in
    other_front c.args.bytes.now (λ k. (c.type_inv.bytes k).fits) c.args.self (omega arith)
    (omega arith)
    (λ is. c.if-number_at-front.true (cc))

pub returns-in-Some : goal.returns-in-Some
returns-in-Some c =
    let front : c.header_of.result + 65536 * c.args.self.item ≡ front_of c.args.self = cc in
    ap (echo_is c.args.bytes.now) (sym c.in-Some.is) ∙ by_the_echo c.args.bytes.now (λ k. (c.type_inv.bytes k).fits) c.args.self (omega arith)
    (omega arith) (cc)

pub returns-in-None : goal.returns-in-None
returns-in-None c =
    let front : c.header_of.result + 65536 * c.args.self.item ≡ front_of c.args.self = cc in
    ap (echo_is c.args.bytes.now) (sym c.in-None.is) ∙ by_the_echo c.args.bytes.now (λ k. (c.type_inv.bytes k).fits) c.args.self (omega arith)
    (omega arith) (cc)
