-- What a contract sees of a window over a list: the count that wraps at 2 ^ 64 is seen as its wire value.
use Rattle.std.specs.Prelude.{ℕ, ◌%◌}
use Rattle.wire_base.specs.Window.{WindowView, window_view}
use Rattle.wire_base.specs.declared.plain_window.PlainWindow.{PlainWindow}

abbrev pub plain_view : {T : Type 0} {M : ℕ} → PlainWindow T M → WindowView T
plain_view {T} {M} window = window_view (window.first % M) window.items.items window.capacity
