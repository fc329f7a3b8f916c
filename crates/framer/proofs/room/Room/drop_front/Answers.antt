use Rattle.std.proofs.Common.{ℕ, ◌-◌, ◌≤◌, length, take, drop, sym, ap, subst, ◌∙◌, arith}
use Rattle.std.proofs.lemmas.List.{length-take}
use Rattle.framer.specs.Given.{FramerState}
use Rattle.framer.proofs.Rooms.{kept_end}
use Rattle.framer.proofs.room.Room.drop_front.Goals as goal

pub returns : goal.returns
returns c =
    let room = c.self.inside in
    let held : c.args.count ≤ length (take room.len room.bytes.items) =
    subst (λ (s : FramerState). c.args.count ≤ length s.held) (sym c.self.view_is) c.requires in
    ap (take (room.len - c.args.count)) c.copy_within.ensures.items
    ∙ kept_end room.bytes.items c.args.count room.len (omega (arith, length-take {A = ℕ})) (omega arith)
    ∙ ap (λ (s : FramerState). drop c.args.count s.held) c.self.view_is
