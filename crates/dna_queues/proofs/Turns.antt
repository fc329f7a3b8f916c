-- Whose turn a message is: the phase that it asks for stands, or is past.
use Rattle.dna_queues.proofs.Prelude.{◌≡◌, ℕ, Bool, true, false, not, ◌&&◌, ◌||◌, Option, Some, None, refl, sym, ap, ◌∙◌, subst, and_parts}
use Rattle.dna_queues.proofs.Prelude.{same_Some, NspValue, DataSegment, LinkService, DataAck, OtherDataAck, ConnectAck, NoOperation}
use Rattle.dna_queues.proofs.Prelude.{ConnectInitiate, ConnectConfirm, DisconnectInitiate, DisconnectConfirm, Phase, Calling, Called, Confirming}
use Rattle.dna_queues.proofs.Prelude.{Running, Disconnecting, Ended, Port, CalledBy, With, Said, Nothing, OfRun, passes, is_in, is_live, is_called}
use Rattle.dna_queues.proofs.Prelude.{is_at, has_both, in_use, port_of_waiting, is_silent, is_over, further}
use Rattle.dna_queues.proofs.{Facts.not_both, Facts.by_option, Shapes.Shape}
use Rattle.dna_queues.proofs.Goes.{Link, phase_of, Goes, said_as, late_link, wide_link, use_opened, at_node, node_port}

-- the phase that a message asks for; a connect ack asks for none
abbrev pub asks : NspValue → Option Phase
asks (ConnectInitiate retransmitted src services info segsize user_data) = Some Calling
asks (ConnectAck dst) = None
asks (ConnectConfirm dst src services info segsize user_data) = Some Confirming
asks (DisconnectInitiate dst src reason user_data) = Some Disconnecting
asks (DisconnectConfirm dst src reason) = Some Ended
asks (NoOperation rest) = Some Ended
asks m = Some Running

abbrev pub has_run : Phase → Bool
has_run Running = true
has_run Disconnecting = true
has_run phase = false

-- a phase behind another one in which something may be sent
abbrev pub has_past : Phase → Bool
has_past Called = true
has_past phase = has_run phase

-- the phase that is asked for is past, as that of a CI also once the call was given up
abbrev pub is_past : Option Phase → Phase → Bool
is_past (Some Calling) Called = true
is_past (Some Calling) now = has_run now
is_past (Some Confirming) now = has_run now
is_past (Some Running) now = is_in Disconnecting now
is_past asked now = false

-- it stands
abbrev pub is_now : Option Phase → Phase → Bool
is_now None now = true
is_now (Some phase) now = is_in phase now

pub is_in_same : (wanted phase : Phase) → is_in wanted phase ≡ true → phase ≡ wanted
is_in_same Calling Calling e = refl
is_in_same Called Called e = refl
is_in_same Confirming Confirming e = refl
is_in_same Running Running e = refl
is_in_same Disconnecting Disconnecting e = refl
is_in_same Ended Ended e = refl
is_in_same wanted phase e = absurd cc

-- how a link's phase goes with who began it, and with what its user did
abbrev pub Began : Phase → (opened accepted ran : Bool) → Type 0
Began Calling opened accepted ran = (opened ≡ true) × (ran ≡ false)
Began Called opened accepted ran = (accepted ≡ false) × (ran ≡ false)
Began Confirming opened accepted ran = (opened ≡ false) × (ran ≡ false)
Began phase opened accepted ran = Unit {0}

-- a phase in which a link can end by what comes; in Called it waits that was given up, which was opened here
abbrev pub CanWait : Phase → (opened : Bool) → Type 0
CanWait Called opened = opened ≡ true
CanWait Ended opened = ⊥
CanWait phase opened = Unit {0}

pub record Sane (l : Link) : Type 0 where
  pub began : Began (phase_of l) l.port.opened l.queue.accepted l.queue.ran
  pub opened : l.port.opened ≡ true → l.queue.accepted ≡ false
  pub called : is_called l.port.phase ≡ true → (l.port.own ≡ None) × (l.port.opened ≡ false)
  pub waits : (p : Phase) → l.queue.waits ≡ Some p → (l.port.phase ≡ Ended) × CanWait p l.port.opened

-- of a live link nothing waits, and it is in use by its own port
pub live_waits : (l : Link) → Sane l → is_live l.port.phase ≡ true → l.queue.waits ≡ None
live_waits l sane live = by_option l.queue.waits (λ e. e) (λ p e. absurd (not_both _ live (ap is_live (sane.waits p e).0)))

pub live_use : (l : Link) → Sane l → is_live l.port.phase ≡ true → in_use With l ≡ l.port
live_use l sane live = ap (λ (w : Option Phase). port_of_waiting w l.port) (live_waits l sane live)

-- at the node too
pub live_node : (l : Link) → Sane l → is_live l.port.phase ≡ true → node_port l ≡ l.port
live_node l sane live = ap (λ (w : Option Phase). port_of_waiting (at_node w) l.port) (live_waits l sane live)

pub called_phase : (far : ℕ) (p : Port) → passes (CalledBy far) p ≡ true → p.phase ≡ Called
called_phase far p e = is_in_same Called p.phase (and_parts (is_in Called p.phase) (is_at p.far far) e).0

module _ (l : Link) (sane : Sane l) where
  of_live : (rest : Bool) → (is_live (phase_of l) && rest) ≡ true → is_live (phase_of l) ≡ true
  of_live rest e = (and_parts (is_live (phase_of l)) rest e).0

  abbrev in_turn : (p : Phase) (a : Option Phase) → Type 0
  in_turn p a = (is_now a p || is_past a p) ≡ true

  call_turn : (p : Phase) → is_live p ≡ true → l.port.opened ≡ true → Began p l.port.opened l.queue.accepted l.queue.ran → in_turn p (Some Calling)
  call_turn Confirming live opened b = absurd (not_both _ opened b.0)
  call_turn Ended live opened b = absurd cc
  call_turn p live opened b = refl

  confirm_turn : (p : Phase) → is_live p ≡ true → l.queue.accepted ≡ true → Began p l.port.opened l.queue.accepted l.queue.ran →
      in_turn p (Some Confirming)
  confirm_turn Calling live accepted b = absurd (not_both _ accepted (sane.opened b.0))
  confirm_turn Called live accepted b = absurd (not_both _ accepted b.0)
  confirm_turn Ended live accepted b = absurd cc
  confirm_turn p live accepted b = refl

  run_turn : (p : Phase) → is_live p ≡ true → l.queue.ran ≡ true → Began p l.port.opened l.queue.accepted l.queue.ran → in_turn p (Some Running)
  run_turn Called live ran b = absurd (not_both _ ran b.1)
  run_turn Running live ran b = refl
  run_turn Disconnecting live ran b = refl
  run_turn Ended live ran b = absurd cc
  run_turn p live ran b = absurd (not_both _ ran b.1)

  close_turn : (p : Phase) → is_in Disconnecting p ≡ true → in_turn p (Some Disconnecting)
  close_turn Disconnecting e = refl
  close_turn p e = absurd cc

  pub turn : (m : NspValue) (x : Link) → Goes l m x → (is_now (asks m) (phase_of l) || is_past (asks m) (phase_of l)) ≡ true
  turn (ConnectInitiate retransmitted src services info segsize user_data) x g =
      let a = and_parts (is_live (phase_of l)) ((in_use With l).opened && is_at (in_use With l).own src) g.passed in
      call_turn (phase_of l) a.0 (sym (use_opened l) ∙ (and_parts (in_use With l).opened (is_at (in_use With l).own src) a.1).0) sane.began
  turn (ConnectAck dst) x g = refl
  turn (ConnectConfirm dst src services info segsize user_data) x g =
      confirm_turn (phase_of l) (of_live (has_both (in_use With l) src dst) g.passed)
      (and_parts l.queue.accepted (is_silent l.queue.said) g.moves.0).0 sane.began
  turn (DisconnectInitiate dst src reason user_data) x g = close_turn (phase_of l) g.moves.0
  turn (DataSegment segment) x g =
      run_turn (phase_of l) (of_live (has_both (in_use With l) segment.srcaddr segment.dstaddr) g.passed)
      (and_parts l.queue.ran (not (is_over l.queue.said)) g.moves.run).0 sane.began
  turn (DataAck dst src acks) x g =
      run_turn (phase_of l) (of_live (has_both (in_use With l) src dst) g.passed)
      (and_parts l.queue.ran (not (is_over l.queue.said)) g.moves.run).0 sane.began
  turn (LinkService interrupt dst src rest) x g =
      run_turn (phase_of l) (of_live (has_both (in_use With l) src dst) g.passed)
      (and_parts l.queue.ran (not (is_over l.queue.said)) g.moves.0).0 sane.began
  turn (OtherDataAck dst src rest) x g =
      run_turn (phase_of l) (of_live (has_both (in_use With l) src dst) g.passed)
      (and_parts l.queue.ran (not (is_over l.queue.said)) g.moves.0).0 sane.began
  turn m x g = absurd g.moves

  -- a sending leaves it so
  pub sane_on : (x : Link) → Shape l x → Sane x
  sane_on x s = subst Sane (sym s.is) (record { began = sane.began; opened = sane.opened; called = sane.called; waits = sane.waits })

-- a link that has said all of its phase has said all that is past
pub record HasSaid (l : Link) : Type 0 where
  pub loud : has_run (phase_of l) ≡ true → is_silent l.queue.said ≡ false
  pub over : is_in Disconnecting (phase_of l) ≡ true → is_over l.queue.said ≡ true
  pub uncalled : is_called (phase_of l) ≡ false

pub said_on : (l x : Link) → HasSaid l → Shape l x → HasSaid x
said_on l x h s = subst HasSaid (sym s.is) (record { loud = λ e. s.loud (h.loud e); over = λ e. s.over (h.over e); uncalled = h.uncalled })

pub nothing_past : (l x : Link) (m : NspValue) → HasSaid l → Goes l m x → is_past (asks m) (phase_of l) ≡ true → ⊥
nothing_past l x (ConnectInitiate retransmitted src services info segsize user_data) h g past =
    go (phase_of l) past h.uncalled h.loud
  where
    go : (p : Phase) → is_past (Some Calling) p ≡ true → is_called p ≡ false → (has_run p ≡ true → is_silent l.queue.said ≡ false) → ⊥
    go Called past uncalled loud = absurd cc
    go p past uncalled loud = not_both _ g.moves.0 (loud past)
nothing_past l x (ConnectConfirm dst src services info segsize user_data) h g past =
    not_both _ (and_parts l.queue.accepted (is_silent l.queue.said) g.moves.0).1 (h.loud past)
nothing_past l x (DataSegment segment) h g past =
    not_both _ (and_parts l.queue.ran (not (is_over l.queue.said)) g.moves.run).1 (ap not (h.over past))
nothing_past l x (DataAck dst src acks) h g past =
    not_both _ (and_parts l.queue.ran (not (is_over l.queue.said)) g.moves.run).1 (ap not (h.over past))
nothing_past l x (LinkService interrupt dst src rest) h g past =
    not_both _ (and_parts l.queue.ran (not (is_over l.queue.said)) g.moves.0).1 (ap not (h.over past))
nothing_past l x (OtherDataAck dst src rest) h g past =
    not_both _ (and_parts l.queue.ran (not (is_over l.queue.said)) g.moves.0).1 (ap not (h.over past))
nothing_past l x m h g past = absurd cc

run_loud : (s : Said) → is_silent (further OfRun s) ≡ false
run_loud Nothing = refl
run_loud p = refl

run_said : (y x : Link) → x ≡ said_as OfRun y → phase_of y ≡ Running → HasSaid x
run_said y x is now = subst HasSaid (sym is) (record {
  loud = λ e. run_loud y.queue.said;
  over = λ e. absurd (not_both _ e (ap (is_in Disconnecting) now));
  uncalled = ap is_called now;
})

unsaid : (l x : Link) (phase : Phase) → x ≡ l → phase_of l ≡ phase → has_run phase ≡ false → is_in Disconnecting phase ≡ false →
    is_called phase ≡ false → HasSaid x
unsaid l x phase is now before unclosed uncalled = subst HasSaid (sym is) (record {
  loud = λ e. absurd (not_both _ e (ap has_run now ∙ before));
  over = λ e. absurd (not_both _ e (ap (is_in Disconnecting) now ∙ unclosed));
  uncalled = ap is_called now ∙ uncalled;
})

-- a message that goes now leaves all of its phase said, unless its phase has no past
pub said_now : (l x : Link) (m : NspValue) (phase : Phase) → asks m ≡ Some phase → phase_of l ≡ phase → Goes l m x → HasSaid x
said_now l x (ConnectInitiate retransmitted src services info segsize user_data) phase is now g =
    unsaid l x Calling g.moves.1 (now ∙ sym (same_Some Calling phase is)) refl refl refl
said_now l x (ConnectConfirm dst src services info segsize user_data) phase is now g =
    unsaid l x Confirming g.moves.1 (now ∙ sym (same_Some Confirming phase is)) refl refl refl
said_now l x (DisconnectInitiate dst src reason user_data) phase is now g =
    subst HasSaid (sym g.moves.1) (record {
      loud = λ e. refl;
      over = λ e. refl;
      uncalled = ap is_called (now ∙ sym (same_Some Disconnecting phase is));
    })
said_now l x (ConnectAck dst) phase is now g = absurd cc
said_now l x (DisconnectConfirm dst src reason) phase is now g = absurd g.moves
said_now l x (NoOperation rest) phase is now g = absurd g.moves
said_now l x (DataSegment segment) phase is now g =
    run_said (late_link l g.moves.late) x g.moves.is (now ∙ sym (same_Some Running phase is))
said_now l x (DataAck dst src acks) phase is now g =
    run_said (wide_link l g.moves.sent) x g.moves.is (now ∙ sym (same_Some Running phase is))
said_now l x m phase is now g =
    run_said l x g.moves.1 (now ∙ sym (same_Some Running phase is))

-- a call that nobody answered but by a refusal: nothing but that goes of it
pub record IsMute (l : Link) : Type 0 where
  pub opened : l.port.opened ≡ false
  pub accepted : l.queue.accepted ≡ false
  pub ran : l.queue.ran ≡ false

pub mute_on : (l x : Link) → IsMute l → Shape l x → IsMute x
mute_on l x mute s = subst IsMute (sym s.is) (record { opened = mute.opened; accepted = mute.accepted; ran = mute.ran })

pub mute_never : (l x : Link) (m : NspValue) → IsMute l → Goes l m x → is_past (asks m) (phase_of l) ≡ true → ⊥
mute_never l x (ConnectInitiate retransmitted src services info segsize user_data) mute g past =
    not_both _ (and_parts (in_use With l).opened (is_at (in_use With l).own src)
    (and_parts (is_live (phase_of l)) ((in_use With l).opened && is_at (in_use With l).own src) g.passed).1).0 (use_opened l ∙ mute.opened)
mute_never l x (ConnectConfirm dst src services info segsize user_data) mute g past =
    not_both _ (and_parts l.queue.accepted (is_silent l.queue.said) g.moves.0).0 mute.accepted
mute_never l x (DataSegment segment) mute g past = not_both _ (and_parts l.queue.ran (not (is_over l.queue.said)) g.moves.run).0 mute.ran
mute_never l x (DataAck dst src acks) mute g past = not_both _ (and_parts l.queue.ran (not (is_over l.queue.said)) g.moves.run).0 mute.ran
mute_never l x (LinkService interrupt dst src rest) mute g past =
    not_both _ (and_parts l.queue.ran (not (is_over l.queue.said)) g.moves.0).0 mute.ran
mute_never l x (OtherDataAck dst src rest) mute g past =
    not_both _ (and_parts l.queue.ran (not (is_over l.queue.said)) g.moves.0).0 mute.ran
mute_never l x m mute g past = absurd cc
