-- Where one CI or CC alone came by which links get these two addresses, one link alone can have them, and what was sent of it is outstanding as it
-- was, or may be acknowledged; until it can send no segment any more.
use Rattle.accusing_segments.proofs.Prelude.{◌≡◌, ℕ, ◌≤◌, ◌+◌, Bool, true, false, ◌||◌, leb, Option, Some, None, length, refl, sym, ap, ◌∙◌, ◌⊎◌}
use Rattle.accusing_segments.proofs.Prelude.{inl, inr, arith, leb-true, leb-false, Phase, Called, Running, Disconnecting, Ended, Port, Queues}
use Rattle.accusing_segments.proofs.Prelude.{Without, With, Said, Nothing, OfRun, Disconnect, is_live, is_in, REACH, LinkOf, LinkTruth}
use Rattle.accusing_segments.proofs.Prelude.{with_segments, is_over, has_waiting, keeps_numbers, further, goes_on, goes_to, ends_by_message, drops}
use Rattle.accusing_segments.proofs.Prelude.{requeued, lets_go, shows_by, settled, booted_link, forgotten, with_queue, port_of_waiting, call_of}
use Rattle.accusing_segments.proofs.Prelude.{drops_segments, Effect, OpenHere, GiveAddress, Connect, GoTo, End, Drop, EndAll, Say, Settle, Keep}
use Rattle.accusing_segments.proofs.Prelude.{HandIn, TakeSegment, TakeAcks, WireSegments, wire_segments, blank, does, dropped_port}
use Rattle.accusing_segments.proofs.Prelude.{forgotten_port, ended_port, booted_port, goes_own, goes_far, goes_called}
use Rattle.dna_links.specs.WireSegments as wire
use Rattle.accusing_segments.proofs.Gave.{Passings, never, Gave}
use Rattle.accusing_segments.proofs.SentPieces.{Shown, Fits, delivers_fit, acks_sent_fit}
use Rattle.accusing_segments.proofs.EachLink.{IsPlain, Stays}

-- it can send no segment any more: it is over, and nothing that has a number waits
abbrev pub IsDead : Queues → LinkOf WireSegments → Type 0
IsDead Without l = is_live l.port.phase ≡ false
IsDead With l = (is_live l.port.phase ≡ false) × ((l.queue.waits ≡ None) ⊎ (is_over l.queue.said ≡ true))

-- it is found as its user and what is sent find links
abbrev pub IsUsed : Queues → LinkOf WireSegments → Type 0
IsUsed Without l = is_live l.port.phase ≡ true
IsUsed With l = (is_live (port_of_waiting l.queue.waits l.port).phase ≡ true) ⊎ (is_live l.port.phase ≡ true)

pub used_live : (q : Queues) (l : LinkOf WireSegments) → is_live l.port.phase ≡ true → IsUsed q l
used_live Without l live = live
used_live With l live = inr live

-- ---- what a link that can send no more stays

further_over : (said old : Said) → is_over old ≡ true → is_over (further said old) ≡ true
further_over Nothing Disconnect e = refl
further_over OfRun Disconnect e = refl
further_over Disconnect Disconnect e = refl
further_over said Nothing e = absurd cc
further_over said OfRun e = absurd cc

waiting_over : (waits : Option Phase) (said : Said) → has_waiting waits said ≡ false → (waits ≡ None) ⊎ (is_over said ≡ true)
waiting_over None said e = inl refl
waiting_over (Some phase) Disconnect e = inr refl
waiting_over (Some phase) Nothing e = absurd cc
waiting_over (Some phase) OfRun e = absurd cc

dead_segments : (q : Queues) (d : WireSegments) (l : LinkOf WireSegments) → IsDead q l → IsDead q (with_segments d l)
dead_segments Without d l dead = dead
dead_segments With d l dead = dead

dead_gap : (q : Queues) (gap : ℕ) (l : LinkOf WireSegments) → IsDead q l → IsDead q (with_queue (record l.queue { gap = gap }) l)
dead_gap Without gap l dead = dead
dead_gap With gap l dead = dead

dead_said : (q : Queues) (said : Said) (l : LinkOf WireSegments) → IsDead q l →
    IsDead q (requeued wire_segments l.queue.waits (further said l.queue.said) l)
dead_said Without said l dead = dead
dead_said With said l (live, inl none) = (live, inl none)
dead_said With said l (live, inr over) = (live, inr (further_over said l.queue.said over))

dead_settled : (q : Queues) (l : LinkOf WireSegments) → IsDead q l → IsDead q (requeued wire_segments None l.queue.said l)
dead_settled Without l dead = dead
dead_settled With l dead = (dead.0, inl refl)

dead_now : (q : Queues) (waits : Option Phase) (said : Said) (l : LinkOf WireSegments) → is_live l.port.phase ≡ false →
    has_waiting waits said ≡ false → IsDead q (requeued wire_segments waits said l)
dead_now Without waits said l live none = live
dead_now With waits said l live none = (live, waiting_over waits said none)

no_or : (a b : Bool) → (a || b) ≡ false → (a ≡ false) × (b ≡ false)
no_or true b e = absurd cc
no_or false b e = (refl, e)

-- a link that gave nothing
pub fresh_small : (f : WireSegments) → Gave never f → length f.variables.outstanding ≤ REACH
fresh_small f gave = go (leb 1 (gave.acked + length f.variables.outstanding)) refl
  where
    go : (b : Bool) → leb 1 (gave.acked + length f.variables.outstanding) ≡ b → length f.variables.outstanding ≤ REACH
    go true e = absurd (gave.all 1 (omega arith) (leb-true 1 (gave.acked + length f.variables.outstanding) e)).1
    go false e = let l = leb-false 1 (gave.acked + length f.variables.outstanding) e in omega (arith, l)

-- a link in use that its own node ends: where it was opened here its segments stay as they were
unused : {X : Type 0} (l : LinkOf WireSegments) → IsUsed With l → is_live l.port.phase ≡ false → l.queue.waits ≡ None → X
unused l (inr live) over none = absurd cc
unused l (inl waiting) over none =
    let same : is_live (port_of_waiting l.queue.waits l.port).phase ≡ is_live l.port.phase =
    ap (λ (w : Option Phase). is_live (port_of_waiting w l.port).phase) none in
    let live : is_live l.port.phase ≡ true = sym same ∙ waiting in
    absurd cc

dropped_kept : (q : Queues) (S : Shown) (Q : Passings) (l : LinkOf WireSegments) → IsUsed q l → IsDead q l ⊎ Fits S Q.word l.segments →
    IsDead q (drops wire_segments q l) ⊎ Fits S Q.word (drops wire_segments q l).segments
dropped_kept Without S Q l used kept = inl refl
dropped_kept With S Q l used (inl (over, inl none)) = unused l used over none
dropped_kept With S Q l used (inl (over, inr said)) = inl (refl, inr said)
dropped_kept With S Q l used (inr fits) = go l.port.opened
  where
    go : (opened : Bool) → ((is_live Ended ≡ false) × ((call_of opened ≡ None) ⊎ (is_over l.queue.said ≡ true)))
        ⊎ Fits S Q.word (drops_segments wire_segments opened l.segments)
    go true = inr fits
    go false = inl (refl, inl refl)

-- `one` is the number of the link that the CI or the CC was for, if it came; `S` what was sent from its own address to its far one
module _ (queues : Queues) (own far : ℕ) (S : Shown) (Q : Passings) (one : Option ℕ) where
  abbrev pub NoneSent : Type 0
  NoneSent = (n : ℕ) (p : _) → S n p → ⊥

  abbrev pub IsKept : LinkOf WireSegments → Type 0
  IsKept l = IsDead queues l ⊎ Fits S Q.word l.segments

  pub record IsMine (n : ℕ) (l : LinkOf WireSegments) : Type 0 where
    pub called : l.port.far ≡ Some far → is_in Called l.port.phase ≡ true → (Some n ≡ one) × NoneSent
    pub able : l.port.far ≡ Some far → l.port.own ≡ Some own → (Some n ≡ one) × IsKept l

  -- ---- of one link

  pub changed_mine : (n : ℕ) (l m : LinkOf WireSegments) → (m.port.far ≡ Some far → l.port.far ≡ Some far) →
      (m.port.own ≡ Some own → l.port.own ≡ Some own) → (is_in Called m.port.phase ≡ true → is_in Called l.port.phase ≡ true) →
      (IsKept l → IsKept m) → IsMine n l → IsMine n m
  changed_mine n l m far_was own_was called_was keeps is = record {
    called = λ f c. is.called (far_was f) (called_was c);
    able = λ f o. let able = is.able (far_was f) (own_was o) in (able.0, keeps able.1);
  }

  requeued_kept : (waits : Option Phase) (said : Said) (l : LinkOf WireSegments) →
      (IsDead queues l → IsDead queues (requeued wire_segments waits said l)) → IsKept l → IsKept (requeued wire_segments waits said l)
  requeued_kept waits said l stays (inl dead) = inl (stays dead)
  requeued_kept waits said l stays (inr fits) = go (keeps_numbers l) (is_live l.port.phase || has_waiting waits said) refl
    where
      go : (a b : Bool) → (is_live l.port.phase || has_waiting waits said) ≡ b →
          IsDead queues (requeued wire_segments waits said l) ⊎ Fits S Q.word (lets_go wire_segments a b l.segments)
      go true false e =
          let parts = no_or (is_live l.port.phase) (has_waiting waits said) e in inl (dead_now queues waits said l parts.0 parts.1)
      go true true e = inr fits
      go false b e = inr fits

  requeued_mine : (waits : Option Phase) (said : Said) (n : ℕ) (l : LinkOf WireSegments) →
      (IsDead queues l → IsDead queues (requeued wire_segments waits said l)) → IsMine n l → IsMine n (requeued wire_segments waits said l)
  requeued_mine waits said n l stays is =
      changed_mine n l (requeued wire_segments waits said l) (λ f. f) (λ o. o) (λ c. c) (requeued_kept waits said l stays) is

  said_mine : (said : Said) (n : ℕ) (l : LinkOf WireSegments) → IsMine n l →
      IsMine n (requeued wire_segments l.queue.waits (further said l.queue.said) l)
  said_mine said n l is = requeued_mine l.queue.waits (further said l.queue.said) n l (dead_said queues said l) is

  settled_mine : (n : ℕ) (l : LinkOf WireSegments) (waits : Option Phase) → IsMine n l → IsMine n (settled wire_segments waits l)
  settled_mine n l (Some phase) is = requeued_mine None l.queue.said n l (dead_settled queues l) is
  settled_mine n l None is = go l.port.phase
    where
      go : (phase : Phase) → IsMine n (shows_by wire_segments phase l)
      go Running = said_mine OfRun n l is
      go Disconnecting = said_mine Disconnect n l is
      go phase = is

  ended_called : (l m : LinkOf WireSegments) → m.port ≡ record l.port { phase = Ended } → is_in Called m.port.phase ≡ true →
      is_in Called l.port.phase ≡ true
  ended_called l m same e = let ended : m.port.phase ≡ Ended = ap (λ (p : Port). p.phase) same in absurd cc

  -- it is over
  over_mine : (n : ℕ) (l m : LinkOf WireSegments) → m.port ≡ record l.port { phase = Ended } → (IsKept l → IsKept m) → IsMine n l → IsMine n m
  over_mine n l m same keeps is =
      changed_mine n l m (λ f. sym (ap (λ (p : Port). p.far) same) ∙ f) (λ o. sym (ap (λ (p : Port). p.own) same) ∙ o) (ended_called l m same)
      keeps is

  pub dropped_mine : (n : ℕ) (l : LinkOf WireSegments) → IsUsed queues l → IsMine n l → IsMine n (drops wire_segments queues l)
  dropped_mine n l used is = over_mine n l (drops wire_segments queues l) (dropped_port queues l) (dropped_kept queues S Q l used) is

  booted_mine : (n : ℕ) (l : LinkOf WireSegments) → IsMine n (booted_link wire_segments queues l)
  booted_mine n l = record {
    called = λ f c. let over = ap (λ (p : Port). p.phase) (booted_port queues l) in absurd cc;
    able = λ f o. let none = ap (λ (p : Port). p.own) (booted_port queues l) in absurd cc;
  }

  forgotten_mine : (n : ℕ) (l : LinkOf WireSegments) → IsMine n l → IsMine n (forgotten wire_segments queues l)
  forgotten_mine n l is = record {
    called = λ f c. is.called (sym (ap (λ (p : Port). p.far) (forgotten_port queues l)) ∙ f)
        (sym (ap (λ (p : Port). is_in Called p.phase) (forgotten_port queues l)) ∙ c);
    able = λ f o. let none = ap (λ (p : Port). p.own) (forgotten_port queues l) in absurd cc;
  }

  segments_mine : (n : ℕ) (l : LinkOf WireSegments) (d : WireSegments) → (Fits S Q.word l.segments → Fits S Q.word d) → IsMine n l →
      IsMine n (with_segments d l)
  segments_mine n l d fits is = changed_mine n l (with_segments d l) (λ f. f) (λ o. o) (λ c. c) keeps is
    where
      keeps : IsKept l → IsKept (with_segments d l)
      keeps (inl dead) = inl (dead_segments queues d l dead)
      keeps (inr fit) = inr (fits fit)

  gap_mine : (gap n : ℕ) (l : LinkOf WireSegments) → IsMine n l → IsMine n (with_queue (record l.queue { gap = gap }) l)
  gap_mine gap n l is = changed_mine n l (with_queue (record l.queue { gap = gap }) l) (λ f. f) (λ o. o) (λ c. c) keeps is
    where
      keeps : IsKept l → IsKept (with_queue (record l.queue { gap = gap }) l)
      keeps (inl dead) = inl (dead_gap queues gap l dead)
      keeps (inr fits) = inr fits

  does_mine : (truth : LinkTruth (Unit {0})) (n : ℕ) (l : LinkOf WireSegments) (effect : Effect) → IsPlain effect → IsMine n l →
      IsMine n (does queues wire_segments truth l effect)
  does_mine truth n l EndAll plain is = is
  does_mine truth n l (Say said) plain is = said_mine said n l is
  does_mine truth n l (Settle own) plain is = is
  does_mine truth n l Keep plain is = is
  does_mine truth n l (HandIn message) plain is =
      segments_mine n l (wire.hands_in message l.segments) (λ fits. record { small = fits.small; each = fits.each }) is
  does_mine truth n l OpenHere plain is = absurd plain
  does_mine truth n l (GiveAddress own) plain is = absurd plain
  does_mine truth n l (Connect far segsize) plain is = absurd plain
  does_mine truth n l (GoTo phase) plain is = absurd plain
  does_mine truth n l End plain is = absurd plain
  does_mine truth n l Drop plain is = absurd plain
  does_mine truth n l (TakeSegment segment) plain is = absurd plain
  does_mine truth n l (TakeAcks acks) plain is = absurd plain

  -- a link without a far address, or with another
  pub none_mine : (n : ℕ) (l : LinkOf WireSegments) → (l.port.far ≡ Some far → ⊥) → IsMine n l
  none_mine n l other = record { called = λ f c. absurd (other f); able = λ f o. absurd (other f) }

  pub stays : Stays queues IsMine
  stays = record {
    blank = λ n. none_mine n (blank queues wire_segments) (λ f. absurd cc);
    does = does_mine;
    delivered = λ message n l d made is. segments_mine n l d (λ fits. delivers_fit S Q message l.segments d made fits) is;
    gap = gap_mine;
    acks = λ acks n l sent made is. segments_mine n l sent.segments (λ fits. acks_sent_fit S Q acks l.segments fits sent made) is;
    forgotten = forgotten_mine;
    booted = λ n l is. booted_mine n l;
    settled = λ n l is. settled_mine n l l.queue.waits is;
  }

  -- ---- a link in use goes to another phase

  goes_kept : (q : Queues) (phase : Phase) (l : LinkOf WireSegments) → IsUsed q l → IsDead q l ⊎ Fits S Q.word l.segments →
      IsDead q (goes_to wire_segments q phase l) ⊎ Fits S Q.word (goes_to wire_segments q phase l).segments
  goes_kept Without phase l used (inl dead) = absurd cc
  goes_kept Without phase l used (inr fits) = inr fits
  goes_kept With phase l used kept = go (is_live l.port.phase) refl used kept
    where
      none : is_live l.port.phase ≡ false → l.queue.waits ≡ None → IsUsed With l → ⊥
      none live e (inl waiting) =
          let same : (port_of_waiting l.queue.waits l.port).phase ≡ l.port.phase = ap (λ (w : Option Phase). (port_of_waiting w l.port).phase) e in
          let alive : is_live l.port.phase ≡ true = sym (ap (λ (p : Phase). is_live p) same) ∙ waiting in
          absurd cc
      none live e (inr alive) = absurd cc

      after_end : (a b : Bool) → (is_live l.port.phase || has_waiting (Some phase) l.queue.said) ≡ b → Fits S Q.word l.segments →
          IsDead With (requeued wire_segments (Some phase) l.queue.said l) ⊎ Fits S Q.word (lets_go wire_segments a b l.segments)
      after_end true false e fits =
          let parts = no_or (is_live l.port.phase) (has_waiting (Some phase) l.queue.said) e in
          inl (dead_now With (Some phase) l.queue.said l parts.0 parts.1)
      after_end true true e fits = inr fits
      after_end false b e fits = inr fits

      go : (b : Bool) → is_live l.port.phase ≡ b → IsUsed With l → IsDead With l ⊎ Fits S Q.word l.segments →
          IsDead With (goes_on wire_segments b phase l) ⊎ Fits S Q.word (goes_on wire_segments b phase l).segments
      go true live used (inl dead) = let over = dead.0 in absurd cc
      go true live used (inr fits) = inr fits
      go false live used (inl (over, inl e)) = absurd (none live e used)
      go false live used (inl (over, inr said)) = inl (over, inr said)
      go false live used (inr fits) = after_end (keeps_numbers l) (is_live l.port.phase || has_waiting (Some phase) l.queue.said) refl fits

  pub goes_mine : (n : ℕ) (phase : Phase) (l : LinkOf WireSegments) → is_in Called phase ≡ false → IsUsed queues l → IsMine n l →
      IsMine n (goes_to wire_segments queues phase l)
  goes_mine n phase l late used is =
      changed_mine n l (goes_to wire_segments queues phase l) (λ f. sym (goes_far queues phase l) ∙ f) (λ o. sym (goes_own queues phase l) ∙ o)
      (goes_called queues phase l late) (goes_kept queues phase l used) is

  -- ---- a live link is ended by what came

  ended_kept : (q : Queues) (l : LinkOf WireSegments) → is_live l.port.phase ≡ true → IsDead q l ⊎ Fits S Q.word l.segments →
      IsDead q (ends_by_message wire_segments q l) ⊎ Fits S Q.word (ends_by_message wire_segments q l).segments
  ended_kept Without l live kept = inl refl
  ended_kept With l live (inl dead) = let over = dead.0 in absurd cc
  ended_kept With l live (inr fits) = go (keeps_numbers l) (has_waiting (Some l.port.phase) l.queue.said) refl
    where
      go : (a b : Bool) → has_waiting (Some l.port.phase) l.queue.said ≡ b →
          IsDead With (ends_by_message wire_segments With l) ⊎ Fits S Q.word (lets_go wire_segments a b l.segments)
      go true false e = inl (refl, waiting_over (Some l.port.phase) l.queue.said e)
      go true true e = inr fits
      go false b e = inr fits

  pub ended_mine : (n : ℕ) (l : LinkOf WireSegments) → is_live l.port.phase ≡ true → IsMine n l → IsMine n (ends_by_message wire_segments queues l)
  ended_mine n l live is =
      over_mine n l (ends_by_message wire_segments queues l) (ended_port queues l) (ended_kept queues l live) is
