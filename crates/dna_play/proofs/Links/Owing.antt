-- What a link of the player owes goes with its phase, and no more segments are sent in a go than are outstanding, whatever becomes of it.
use Rattle.dna_play.proofs.Prelude.{◌≡◌, ℕ, ◌+◌, ◌≤◌, Bool, true, false, length, refl, sym, ap, ◌∙◌, subst, arith, length-drop, sub-zero, Phase}
use Rattle.dna_play.proofs.Prelude.{Calling, Called, Confirming, Running, Disconnecting, Ended, LinkOf, distance, TrueSegments, highest_given}
use Rattle.dna_play.proofs.Prelude.{IsOrdered, LinkOwed, nothing, Duty, ConnectAckDuty, InitiateDuty, ConfirmDuty, DisconnectDuty, DataAckDuty}
use Rattle.dna_play.proofs.Prelude.{SegmentDuty, with_duty, same_phase, unless_left, lowered, without_duty, distance_ahead}
use Rattle.dna_links.specs.SegmentBook.{wire}
use Rattle.dna_play.proofs.Links.Pays.{variables_of, is_owed, phase_of, OwedFits}

-- ---- what a link owes still

-- more is given, and what is acknowledged more was given before
pub record SegmentsMove (f g : TrueSegments) : Type 0 where
  pub given : highest_given f ≤ highest_given g
  pub least : f.acknowledged ≤ g.acknowledged
  pub most : g.acknowledged ≤ highest_given f

pub stays : (f : TrueSegments) → IsOrdered f → SegmentsMove f f
stays f o = let g = o.given in record { given = omega arith; least = omega arith; most = g }

-- a phase that was left drops what was owed, and what was acknowledged is no longer among the segments sent in this go
abbrev pub still_owed : (before after : LinkOf TrueSegments) → LinkOwed → LinkOwed
still_owed before after owed =
    lowered (distance (variables_of before).acknowledged (variables_of after).acknowledged)
    (unless_left (same_phase before.port.phase after.port.phase) owed)

same_is : (p q : Phase) → same_phase p q ≡ true → p ≡ q
same_is Calling Calling e = refl
same_is Called Called e = refl
same_is Confirming Confirming e = refl
same_is Running Running e = refl
same_is Disconnecting Disconnecting e = refl
same_is Ended Ended e = refl
same_is p q e = absurd cc

owes_nothing : (duty : Duty) → is_owed duty nothing ≡ true → ⊥
owes_nothing ConnectAckDuty e = cc
owes_nothing duty e = cc

pub nothing_fits : (l : LinkOf TrueSegments) → OwedFits l nothing
nothing_fits l = record { duties = λ duty e. absurd (owes_nothing duty e); ahead = omega arith }

-- how many are sent in this go is no flag
pub ahead_owes : (duty : Duty) (n : ℕ) (o : LinkOwed) → is_owed duty (record o { ahead = n }) ≡ true → is_owed duty o ≡ true
ahead_owes ConnectAckDuty n o e = e
ahead_owes duty n o e = e

pub still_fits : (l k : LinkOf TrueSegments) (o : LinkOwed) → IsOrdered l.segments → SegmentsMove l.segments k.segments → OwedFits l o →
    OwedFits k (still_owed l k o)
still_fits l k o ordered moves fits = go (same_phase l.port.phase k.port.phase) refl
  where
    go : (b : Bool) → same_phase l.port.phase k.port.phase ≡ b →
        OwedFits k (lowered (distance (variables_of l).acknowledged (variables_of k).acknowledged) (unless_left b o))
    go true same =
        let is = sym (same_is l.port.phase k.port.phase same) in let few = ordered.few in let ahead = fits.ahead in
        let least = moves.least in let most = moves.most in let given = moves.given in
        let d = distance_ahead l.segments.acknowledged k.segments.acknowledged least (omega arith) in
        let before = length-drop l.segments.acknowledged l.segments.given in
        let after = length-drop k.segments.acknowledged k.segments.given in
        record { duties = λ duty e. is ∙ fits.duties duty (ahead_owes duty _ o e); ahead = omega arith }
    go false same = record { duties = λ duty e. absurd (owes_nothing duty (ahead_owes duty _ nothing e)); ahead = omega arith }

phase_stays : (phase : Phase) → same_phase phase phase ≡ true
phase_stays Calling = refl
phase_stays phase = refl

none_more : (number : ℕ) → distance (wire number) (wire number) ≡ 0
none_more number = omega arith

-- with the same number acknowledged, by its phase
pub still_in_phase : (l k : LinkOf TrueSegments) (owed : LinkOwed) → k.segments.acknowledged ≡ l.segments.acknowledged →
    still_owed l k owed ≡ unless_left (same_phase l.port.phase k.port.phase) owed
still_in_phase l k owed number = rw (number, none_more l.segments.acknowledged, sub-zero) refl

-- and in the same phase, a link owes what it owed
pub still_same : (l k : LinkOf TrueSegments) (owed : LinkOwed) → k.port.phase ≡ l.port.phase → k.segments.acknowledged ≡ l.segments.acknowledged →
    still_owed l k owed ≡ owed
still_same l k owed phase number = still_in_phase l k owed number ∙ rw (phase, phase_stays l.port.phase) refl

-- where its segments stay, by its phase
pub left_fits : (l k : LinkOf TrueSegments) (o : LinkOwed) → IsOrdered l.segments → k.segments ≡ l.segments → OwedFits l o →
    OwedFits k (unless_left (same_phase l.port.phase k.port.phase) o)
left_fits l k o ordered same fits =
    subst (OwedFits k) (still_in_phase l k o (ap (λ (f : TrueSegments). f.acknowledged) same))
    (still_fits l k o ordered (subst (SegmentsMove l.segments) (sym same) (stays l.segments ordered)) fits)

-- a flag is raised, or the message of a duty is sent: the others stay
raised_owes : (l : LinkOf TrueSegments) (o : LinkOwed) (duty other : Duty) → l.port.phase ≡ phase_of duty → OwedFits l o →
    is_owed other (with_duty duty true o) ≡ true → l.port.phase ≡ phase_of other
raised_owes l o ConnectAckDuty ConnectAckDuty is f e = is
raised_owes l o InitiateDuty InitiateDuty is f e = is
raised_owes l o ConfirmDuty ConfirmDuty is f e = is
raised_owes l o DisconnectDuty DisconnectDuty is f e = is
raised_owes l o DataAckDuty DataAckDuty is f e = is
raised_owes l o duty other is f e = f.duties other e

sent_owes : (o : LinkOwed) (duty other : Duty) → is_owed other (without_duty duty o) ≡ true → is_owed other o ≡ true
sent_owes o ConnectAckDuty ConnectAckDuty e = absurd cc
sent_owes o InitiateDuty InitiateDuty e = absurd cc
sent_owes o ConfirmDuty ConfirmDuty e = absurd cc
sent_owes o DisconnectDuty DisconnectDuty e = absurd cc
sent_owes o DataAckDuty DataAckDuty e = absurd cc
sent_owes o SegmentDuty other e = ahead_owes other (o.ahead + 1) o e
sent_owes o duty other e = e

pub duty_fits : (l : LinkOf TrueSegments) (o : LinkOwed) (duty : Duty) → l.port.phase ≡ phase_of duty → OwedFits l o →
    OwedFits l (with_duty duty true o)
duty_fits l o SegmentDuty is f = f
duty_fits l o duty is f = record { duties = λ other e. raised_owes l o duty other is f e; ahead = f.ahead }

-- what is sent is owed no more
pub sent_duty_fits : (l : LinkOf TrueSegments) (o : LinkOwed) (duty : Duty) →
    (duty ≡ SegmentDuty → o.ahead + 1 ≤ length (variables_of l).outstanding) →
    OwedFits l o → OwedFits l (without_duty duty o)
sent_duty_fits l o SegmentDuty more f = record { duties = λ other e. f.duties other (sent_owes o SegmentDuty other e); ahead = more refl }
sent_duty_fits l o duty more f = record { duties = λ other e. f.duties other (sent_owes o duty other e); ahead = f.ahead }
