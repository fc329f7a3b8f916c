-- What a contract sees of a window over a ring.
use Rattle.std.specs.Prelude.{ℕ}
use Rattle.wire_base.specs.Window.{WindowView, window_view}
use Rattle.wire_base.specs.declared.ring_window.RingWindow.{RingWindow}

abbrev pub ring_view : {T : Type 0} {M : ℕ} → RingWindow T M → WindowView T
ring_view window = window_view window.first window.items.items window.items.capacity
