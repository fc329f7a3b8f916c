use Rattle.std.proofs.Common.{◌≡◌, ◌+◌, ◌%◌, ◌^◌, drop, sym, ap₂, ◌∙◌}
use Rattle.std.proofs.Math.Nat.{mod-add-mod}
use Rattle.wire_base.proofs.WireNumbers.{wire_value-wrapped}
use Rattle.wire_base.specs.Window.{window_view}
use Rattle.wire_base.proofs.plain_window.PlainWindowWindow.release.Goals as goal

pub returns : goal.returns
returns g c =
    let w = c.args.self.now in
    let number : (w.first + c.args.count) % 2 ^ 64 % g.row.M ≡ (w.first % g.row.M + c.args.count) % g.row.M =
    wire_value-wrapped g.row.M (w.first + c.args.count) (2 ^ 64) w.wraps ∙ sym (mod-add-mod w.first g.row.M c.args.count) in
    let items : c.drop-drain.new.self.0.items ≡ drop c.args.count w.items.items = cc in
    ap₂ (λ first items. window_view first items w.capacity) number items
