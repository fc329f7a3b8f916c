-- What has to hold of what is left out, of links and of records, for no refusal to come of it.
use Rattle.std.specs.Prelude.{◌≡◌, ℕ, ◌≤◌, Bool, true, false, not, Option, Some, None, IfSome, List, [], ◌∷◌, slice_get, Ok}
use Rattle.dna_packet.specs.Nsp.{NspValue, ConnectInitiate, ConnectConfirm}
use Rattle.dna_links.specs.declared.tag.LinkTag.{LinkTag}
use Rattle.dna_links.specs.Links.{LinkOf, LinksOf}
use Rattle.dna_links.specs.User.{LinkEventValue, Accept, Reject}
use Rattle.dna_links.specs.User as user
use Rattle.dna_leaving.specs.Marks.{Marks}
use Rattle.dna_leaving.specs.Records.{LinkRules, LinkRecord, OfUser, Sends, Keeps, OfNoLink, next_links}
use Rattle.dna_leaving.specs.LeftOut.{LeftOut, is_out}
use Rattle.dna_leaving.specs.Left.{Judged, judged_then}

-- ---- of the links

-- a link's own address, where it has one, is left out where the link is
abbrev pub OwnFits : LeftOut → (is_judged : Bool) → Option ℕ → Type 0
OwnFits out is_judged None = Unit {0}
OwnFits out is_judged (Some own) = (1 ≤ own) × (out.own own ≡ not is_judged)

-- 0 is the address of no link. If a message comes from it all the same, address 0 has to be left out of both ends, or of none
abbrev pub IsOneAtZero : LeftOut → ℕ → Type 0
IsOneAtZero out far = far ≡ 0 → out.own 0 ≡ out.far 0

-- and so is its far address
abbrev pub FarFits : LeftOut → (is_judged : Bool) → Option ℕ → Type 0
FarFits out is_judged None = Unit {0}
FarFits out is_judged (Some far) = IsOneAtZero out far × (out.far far ≡ not is_judged)

-- each number that is known is that of a judged link
abbrev pub IsOfJudged : Marks → Option ℕ → Type 0
IsOfJudged marks number = IfSome number (λ n. marks n ≡ true)

pub record LinkFits {D : Type 0} (out : LeftOut) (there : Marks) (is_judged : Bool) (link : LinkOf D) : Type 0 where
  pub own : OwnFits out is_judged link.port.own
  pub far : FarFits out is_judged link.port.far
  -- a judged link goes with a judged one
  pub partner : is_judged ≡ true → IsOfJudged there link.partner

abbrev pub AreFit : {D : Type 0} → LeftOut → Judged → LinksOf D → Type 0
AreFit {D} out judged s = (n : ℕ) (link : LinkOf D) → slice_get s.links n ≡ Some link → LinkFits out judged.there (judged.here n) link

-- ---- of records: no judged address is bound to one that is left out

abbrev pub IsBound : LeftOut → (own far : ℕ) → Type 0
IsBound out own far = out.own own ≡ out.far far

abbrev pub EventBinds : LeftOut → LinkEventValue → Type 0
EventBinds out (Accept far own) = IsBound out own far
EventBinds out (Reject far own) = IsBound out own far
EventBinds out event = Unit {0}

-- a CC that comes binds too
abbrev pub MessageBinds : LeftOut → NspValue → Type 0
MessageBinds out (ConnectInitiate retransmitted src services info segsize user_data) = IsOneAtZero out src
MessageBinds out (ConnectConfirm dst src services info segsize user_data) = IsOneAtZero out src × (1 ≤ dst → IsBound out dst src)
MessageBinds out m = Unit {0}

-- and a judged message that comes is of judged links, as far as it is of any
pub record NamesJudged (judged : Judged) (tag : LinkTag) : Type 0 where
  pub link : IsOfJudged judged.there tag.link
  pub partner : IsOfJudged judged.here tag.partner

abbrev pub IsRight : {K : Type 0} → LeftOut → Judged → LinkRecord K → Type 0
IsRight out judged (OfUser event) = user.IsInRange event × EventBinds out event
IsRight out judged (Sends packet) = Unit {0}
IsRight out judged (Keeps packet truth) = MessageBinds out packet.message × (is_out out (Keeps packet truth) ≡ false → NamesJudged judged truth.tag)
IsRight out judged OfNoLink = Unit {0}

-- each record, up to the first that the links refuse
abbrev pub AreRight : {D K : Type 0} → LinkRules D K → LeftOut → Judged → LinksOf D → List (LinkRecord K) → Type 0
AreRight rules out judged s [] = Unit {0}
AreRight {D} rules out judged s (one ∷ later) =
    IsRight out (judged_then out judged s one) one
    × ((left : LinksOf D) → next_links rules s one ≡ Ok left → AreRight rules out (judged_then out judged s one) left later)
