-- What changes a link and leaves it the addresses that it has.
use Rattle.std.proofs.Common.{◌≡◌, ℕ, Bool, true, false, Option, Some, None, List, Result, Ok, Err, OnOk, refl, ap, ◌∙◌, sym}
use Rattle.std.specs.Prelude.{OnErr, slice_get}
use Rattle.dna_links.specs.declared.port.Phase.{Phase}
use Rattle.dna_links.specs.declared.port.Phase.TheVariants.{Calling}
use Rattle.dna_links.specs.declared.port.Port.{Port}
use Rattle.dna_packet.specs.declared.ack_word.AckWord.{AckWord}
use Rattle.dna_links.specs.LookUps.{is_live, is_running}
use Rattle.dna_links.specs.Segmentation.{Piece}
use Rattle.std.proofs.lemmas.Option.{same_Some}
use Rattle.player_end.specs.inner.Links.{retried_end, with_change}
use Rattle.dna_play.specs.LinkOwed.{LinkOwed, retried, Duty, SegmentDuty}
use Rattle.dna_play.specs.NextSent.{LinkEnd}
use Rattle.dna_play.specs.StoredLinks.{called_again, confirmed_again, acted_on, took_acks, handed, closed, duty_sent, gave, gave_by}

pub record Keeps (l m : LinkEnd) : Type 0 where
  pub live : is_live l.port.phase ≡ true → is_live m.port.phase ≡ true
  pub own : m.port.own ≡ l.port.own
  pub far : m.port.far ≡ l.port.far

pub same_port : {l m : LinkEnd} → m.port ≡ l.port → Keeps l m
same_port e = record {
  live = λ h. ap (λ (p : Port). is_live p.phase) e ∙ h;
  own = ap (λ (p : Port). p.own) e;
  far = ap (λ (p : Port). p.far) e;
}

pub as_made : {l m k : LinkEnd} → m ≡ k → Keeps l k → Keeps l m
as_made e keeps = record {
  live = λ h. ap (λ (x : LinkEnd). is_live x.port.phase) e ∙ keeps.live h;
  own = ap (λ (x : LinkEnd). x.port.own) e ∙ keeps.own;
  far = ap (λ (x : LinkEnd). x.port.far) e ∙ keeps.far;
}

-- it is made, or nothing changes
pub either_made : {A E : Type 0} (r : Result A E) {l m k : LinkEnd} → OnOk r (m ≡ k) → OnErr r (m ≡ l) → Keeps l k → Keeps l m
either_made (Ok x) ok err keeps = as_made ok keeps
either_made (Err e) ok err keeps = same_port (ap (λ (x : LinkEnd). x.port) err)

called_port : (phase : Phase) (l : LinkEnd) → (called_again phase l).port ≡ l.port
called_port Calling l = refl
called_port phase l = refl

pub keeps_called : (l : LinkEnd) → Keeps l (called_again l.port.phase l)
keeps_called l = same_port (called_port l.port.phase l)

confirmed_port : (b : Bool) (l : LinkEnd) → (confirmed_again b l).port ≡ l.port
confirmed_port true l = refl
confirmed_port false l = refl

pub keeps_confirmed : (l : LinkEnd) → Keeps l (confirmed_again (is_running l.port.phase) l)
keeps_confirmed l = same_port (confirmed_port (is_running l.port.phase) l)

pub keeps_handed : (message : List ℕ) (l : LinkEnd) → Keeps l (handed message l)
keeps_handed message l = same_port refl

gave_port : (o : Option Piece) (l : LinkEnd) → (gave o l).port ≡ l.port
gave_port (Some p) l = refl
gave_port None l = refl

by_port : (duty : Duty) (l : LinkEnd) → (gave_by duty l).port ≡ l.port
by_port SegmentDuty l = gave_port (slice_get l.variables.outstanding l.owed.ahead) l
by_port duty l = refl

pub keeps_sent : (duty : Duty) (l : LinkEnd) → Keeps l (duty_sent duty l)
keeps_sent duty l = same_port (by_port duty l)

pub keeps_acted : (l : LinkEnd) → Keeps l (acted_on l.variables l)
keeps_acted l = record { live = λ h. refl; own = refl; far = refl }

pub keeps_acks : (words : List AckWord) (l : LinkEnd) → Keeps l (took_acks words l)
keeps_acks words l = record { live = λ h. refl; own = refl; far = refl }

pub keeps_closed : (l : LinkEnd) → Keeps l (closed l)
keeps_closed l = record { live = λ h. refl; own = refl; far = refl }

-- its timer runs out, if it can
pub retry_port : (l m : LinkEnd) → retried_end l ≡ Some m → Keeps l m
retry_port l m e = same_port (go (retried l.port.phase) e)
  where
    go : (o : Option (LinkOwed → LinkOwed)) → with_change o l ≡ Some m → m.port ≡ l.port
    go None h = absurd cc
    go (Some change) h = ap (λ (k : LinkEnd). k.port) (sym (same_Some (record l { owed = change l.owed }) m h))

pub retry_keeps : {l m : LinkEnd} (r : Bool) → (r ≡ true → retried_end l ≡ Some m) → (r ≡ false → m ≡ l) → Keeps l m
retry_keeps {l} {m} true made same = retry_port l m (made refl)
retry_keeps false made same = same_port (ap (λ (k : LinkEnd). k.port) (same refl))
