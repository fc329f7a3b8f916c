use Rattle.std.proofs.Common.{◌-◌, ◌<◌, ap, arith, length, refl}
use Rattle.link_segments.proofs.Giving.{rest_left}
use Rattle.link_segments.proofs.unsent.Unsent.give_next.Goals as goal

pub returns-else-left-le-SEGSIZE : goal.returns-else-left-le-SEGSIZE
returns-else-left-le-SEGSIZE c =
    let u = c.self.inside in
    let some : 0 < length u.messages.items = omega (arith, c.in-Some.ensures.variant.0 refl, u.messages.ok) in
    let long : 512 < length c.in-Some.message.now - u.given = omega (arith, ap length c.as_slice.ensures) in
    rw (← c.self.view_is) (rest_left u.begun u.given u.messages.items c.in-Some.message.now some c.in-Some.ensures.lookup long)
