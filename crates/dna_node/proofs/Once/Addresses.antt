-- Where no link address is given twice: at any time an own address is that of one link, a far address that of the partner, and the two
-- addresses in a message those of its sender and of its sender's partner.
use Rattle.std.proofs.Common.{◌≡◌, ℕ, ◌<◌, ◌≤◌, ◌⊎◌, inl, inr, true, false, Option, Some, None, List, [], ◌∷◌, ◌++◌, length, refl, sym, ap, ◌∙◌}
use Rattle.std.proofs.Common.{subst, arith}
use Rattle.std.specs.Prelude.{slice_get, slice_set}
use Rattle.std.proofs.lemmas.Bool.{and_parts, cases_eq}
use Rattle.std.proofs.lemmas.Option.{same_Some}
use Rattle.two_nodes.proofs.Order.{slice_get-append}
use Rattle.dna_links.specs.Queues.{forgotten, freed, ended}
use Rattle.dna_links.specs.declared.queue.Queues.TheVariants.{Without}
use Rattle.dna_links.specs.declared.port.Phase.{Phase}
use Rattle.dna_links.specs.declared.port.Phase.TheVariants.{Confirming, Disconnecting}
use Rattle.dna_links.specs.declared.port.LinkTest.TheVariants.{HasAddress}
use Rattle.dna_links.specs.LookUps.{is_at, is_called}
use Rattle.dna_links.specs.Links.{LinkOf, changed, begun, in_phase, with_segments}
use Rattle.dna_links.specs.User.{LinkEventValue}
use Rattle.dna_links.specs.inner.Forms.{opened, answered}
use Rattle.dna_links.specs.TrueSegments.{TrueSegments, true_segments}
use Rattle.dna_links.specs.TrueLinks.{Links}
use Rattle.dna_links.specs.Captures.{given_address}
use Rattle.dna_node.proofs.Once.Orderly.{IsHigher, Rises, higher}
use Rattle.two_nodes.proofs.NumberedSteps.{at_pushed}
use Rattle.dna_links.proofs.Runs.Reads.{at_is}
use Rattle.dna_links.proofs.Tables.Outcomes.{looked, UserDid, Opens, Accepts, Rejects, HandsIn, Delivers, Closes, Aborts, Boots}
use Rattle.dna_links.proofs.Runs.Sides.{set_same, set_other, at_set, all_set, all_pushed}

abbrev pub LinkList : Type 0
LinkList = List (LinkOf TrueSegments)

-- the link with this number has this own address
pub record OwnsIn (links : LinkList) (number address : ℕ) : Type 0 where
  pub link : LinkOf TrueSegments
  pub there : slice_get links number ≡ Some link
  pub owns : link.port.own ≡ Some address

-- the link that is known has it
pub record Owner (links : LinkList) (known : Option ℕ) (address : ℕ) : Type 0 where
  pub number : ℕ
  pub is : known ≡ Some number
  pub owns : OwnsIn links number address

abbrev pub KeepsAddresses : LinkList → LinkList → Type 0
KeepsAddresses old new = (i a : ℕ) → OwnsIn old i a → OwnsIn new i a

pub owner_kept : (old new : LinkList) (known : Option ℕ) (address : ℕ) → KeepsAddresses old new → Owner old known address → Owner new known address
owner_kept old new known address keeps o = record { number = o.number; is = o.is; owns = keeps o.number address o.owns }

-- a far address is the partner's own
abbrev pub HasFar : LinkList → LinkOf TrueSegments → Type 0
HasFar others l = (far : ℕ) → l.port.far ≡ Some far → Owner others l.partner far

-- a link that was called has no own address
abbrev pub IsNamed : LinkOf TrueSegments → Type 0
IsNamed l = is_called l.port.phase ≡ true → l.port.own ≡ None

-- of all links of a side beside those of the other, where this is the highest address that was given; addresses are from 1
pub record AreAddressed (links others : LinkList) (most : ℕ) : Type 0 where
  pub distinct : (i j a : ℕ) → OwnsIn links i a → OwnsIn links j a → i ≡ j
  pub highest : (i a : ℕ) → OwnsIn links i a → a ≤ most
  pub least : (i a : ℕ) → OwnsIn links i a → 1 ≤ a
  pub far : (i : ℕ) (l : LinkOf TrueSegments) → slice_get links i ≡ Some l → HasFar others l
  pub named : (i : ℕ) (l : LinkOf TrueSegments) → slice_get links i ≡ Some l → IsNamed l

pub none_addressed : (others : LinkList) (most : ℕ) → AreAddressed [] others most
none_addressed others most =
    record {
      distinct = λ i j a x y. let t = x.there in absurd cc;
      highest = λ i a x. let t = x.there in absurd cc;
      least =
          λ i a x. let t = x.there in absurd cc;
      far = λ i l at. absurd cc;
      named = λ i l at. absurd cc;
    }

-- the other side's links keep theirs
pub addressed_beside : (links others further : LinkList) (most : ℕ) → KeepsAddresses others further → AreAddressed links others most →
    AreAddressed links further most
addressed_beside links others further most keeps h = record {
  distinct = h.distinct;
  highest = h.highest;
  least = h.least;
  far = λ i l at far e. owner_kept others further l.partner far keeps (h.far i l at far e);
  named = h.named;
}

-- ---- one link is another then, or one more begins; it may be given an address

-- what owns an address then owned it, or is the one link that was given it
module _ (old new others : LinkList) (most n : ℕ) (given : Option ℕ) (less : IsHigher most given)
    (back : (i a : ℕ) → OwnsIn new i a → OwnsIn old i a ⊎ ((i ≡ n) × (given ≡ Some a))) (h : AreAddressed old others most) where
  abbrev Was : ℕ → ℕ → Type 0
  Was i a = OwnsIn old i a ⊎ ((i ≡ n) × (given ≡ Some a))

  no_less : (o : Option ℕ) → IsHigher most o → most ≤ higher most o
  no_less None l = omega arith
  no_less (Some address) l = omega arith

  is_new : (a : ℕ) → given ≡ Some a → most < a
  is_new a e = subst (IsHigher most) e less

  same : (i j a : ℕ) → Was i a → Was j a → i ≡ j
  same i j a (inl x) (inl y) = h.distinct i j a x y
  same i j a (inl x) (inr e) = let l = h.highest i a x in let f = is_new a e.1 in absurd (omega arith)
  same i j a (inr e) (inl y) = let l = h.highest j a y in let f = is_new a e.1 in absurd (omega arith)
  same i j a (inr e) (inr f) = e.0 ∙ sym f.0

  under : (i a : ℕ) → Was i a → a ≤ higher most given
  under i a (inl x) = let l = h.highest i a x in let m = no_less given less in omega arith
  under i a (inr e) = let f = ap (higher most) e.1 in omega arith

  above : (i a : ℕ) → Was i a → 1 ≤ a
  above i a (inl x) = h.least i a x
  above i a (inr e) = let f = is_new a e.1 in omega arith

  left_addressed : ((i : ℕ) (l : LinkOf TrueSegments) → slice_get new i ≡ Some l → HasFar others l × IsNamed l) →
      AreAddressed new others (higher most given)
  left_addressed each = record {
    distinct = λ i j a x y. same i j a (back i a x) (back j a y);
    highest = λ i a x. under i a (back i a x);
    least = λ i a x. above i a (back i a x);
    far = λ i l at. (each i l at).0;
    named = λ i l at. (each i l at).1;
  }

-- its own address stays, or it had none and is given this
abbrev pub OwnLeft : Option ℕ → LinkOf TrueSegments → LinkOf TrueSegments → Type 0
OwnLeft given l k = (k.port.own ≡ l.port.own) ⊎ ((l.port.own ≡ None) × (k.port.own ≡ given))

abbrev own_of : LinkOf TrueSegments → Option ℕ
own_of l = l.port.own

module _ (links : LinkList) (n : ℕ) (l k : LinkOf TrueSegments) (there : slice_get links n ≡ Some l) (given : Option ℕ)
    (own : OwnLeft given l k) where
  set_back : (i a : ℕ) → OwnsIn (slice_set links n k) i a → OwnsIn links i a ⊎ ((i ≡ n) × (given ≡ Some a))
  set_back i a o = go (at_set links n i k o.link o.there) own
    where
      go : ((i ≡ n) × (k ≡ o.link)) ⊎ ((i ≡ n → ⊥) × (slice_get links i ≡ Some o.link)) → OwnLeft given l k →
          OwnsIn links i a ⊎ ((i ≡ n) × (given ≡ Some a))
      go (inl e) (inl stays) = inl (record { link = l; there = ap (slice_get links) e.0 ∙ there; owns = sym stays ∙ ap own_of e.1 ∙ o.owns })
      go (inl e) (inr is) = inr (e.0, sym is.1 ∙ ap own_of e.1 ∙ o.owns)
      go (inr e) _ = inl (record { link = o.link; there = e.1; owns = o.owns })

  set_keeps : KeepsAddresses links (slice_set links n k)
  set_keeps i a o = go (cases_eq i n)
    where
      was : i ≡ n → l.port.own ≡ Some a
      was e = ap own_of (same_Some l o.link (sym there ∙ ap (slice_get links) (sym e) ∙ o.there)) ∙ o.owns

      owns : OwnLeft given l k → l.port.own ≡ Some a → k.port.own ≡ Some a
      owns (inl stays) is = stays ∙ is
      owns (inr e) is = let f = sym e.0 ∙ is in absurd cc

      go : (i ≡ n) ⊎ (i ≡ n → ⊥) → OwnsIn (slice_set links n k) i a
      go (inl e) = record { link = k; there = ap (slice_get (slice_set links n k)) e ∙ set_same links n l k there; owns = owns own (was e) }
      go (inr differs) = record { link = o.link; there = set_other links n i k differs ∙ o.there; owns = o.owns }

push_back : (links : LinkList) (k : LinkOf TrueSegments) (i a : ℕ) → OwnsIn (links ++ k ∷ []) i a → OwnsIn links i a ⊎ ((i ≡ length links) ×
    (k.port.own ≡ Some a))
push_back links k i a o = go (at_pushed links k o.link i o.there)
  where
    go : (slice_get links i ≡ Some o.link) ⊎ ((i ≡ length links) × (k ≡ o.link)) → OwnsIn links i a ⊎ ((i ≡ length links) × (k.port.own ≡ Some a))
    go (inl at) = inl (record { link = o.link; there = at; owns = o.owns })
    go (inr e) = inr (e.0, ap own_of e.1 ∙ o.owns)

-- the addresses of both nodes
pub record AtNodes (s : Links) (node peer : ℕ) : Type 0 where
  pub node_is : s.node ≡ node
  pub peer_is : s.peer ≡ peer

pub record LeavesAddressed (old : Links) (others : LinkList) (left : Links) (most : ℕ) : Type 0 where
  pub addressed : AreAddressed left.links others most
  pub keeps : KeepsAddresses old.links left.links
  pub nodes : AtNodes left old.node old.peer

-- what a change of one link leaves of its port
pub record PortKept (l k : LinkOf TrueSegments) : Type 0 where
  pub own : k.port.own ≡ l.port.own
  pub far : k.port.far ≡ l.port.far
  pub partner : k.partner ≡ l.partner
  pub called : is_called k.port.phase ≡ true → is_called l.port.phase ≡ true

module _ (s : Links) (others : LinkList) (most : ℕ) (h : AreAddressed s.links others most) where
  abbrev Leaves : Links → ℕ → Type 0
  Leaves left top = LeavesAddressed s others left top

  abbrev IsRight : LinkOf TrueSegments → Type 0
  IsRight l = HasFar others l × IsNamed l

  are_right : (i : ℕ) (l : LinkOf TrueSegments) → slice_get s.links i ≡ Some l → IsRight l
  are_right i l at = (h.far i l at, h.named i l at)

  -- one that is another then
  pub one_left : (given : Option ℕ) → IsHigher most given → (number : ℕ) (link left : LinkOf TrueSegments) → slice_get s.links number ≡ Some link →
      OwnLeft given link left → IsRight left → Leaves (changed number left s) (higher most given)
  one_left given less number link left there own right = record {
    addressed = left_addressed s.links (slice_set s.links number left) others most number given less
        (set_back s.links number link left there given own) h (all_set (λ i l. IsRight l) s.links number left right are_right);
    keeps = set_keeps s.links number link left there given own;
    nodes = record { node_is = refl; peer_is = refl };
  }

  -- and one that keeps its port's addresses
  pub one_kept : (number : ℕ) (link left : LinkOf TrueSegments) → slice_get s.links number ≡ Some link → PortKept link left →
      Leaves (changed number left s) most
  one_kept number link left there p = one_left None tt number link left there (inl p.own) (
    λ far e. subst (λ (x : Option ℕ). Owner others x far) (sym p.partner) (h.far number link there far (sym p.far ∙ e)),
    λ c. p.own ∙ h.named number link there (p.called c),
  )

  -- one more
  pub one_more : (left : LinkOf TrueSegments) → IsHigher most left.port.own → IsRight left → Leaves (begun left s) (higher most left.port.own)
  one_more left less right = record {
    addressed = left_addressed s.links (s.links ++ left ∷ []) others most (length s.links) left.port.own less (push_back s.links left) h
        (all_pushed (λ i l. IsRight l) s.links left right are_right);
    keeps = λ i a o. record { link = o.link; there = slice_get-append s.links (left ∷ []) i o.link o.there; owns = o.owns };
    nodes = record { node_is = refl; peer_is = refl };
  }

  -- ---- the user

  -- nobody has it
  pub freed_same : (address : ℕ) → most < address → freed true_segments Without address s ≡ s
  freed_same address less =
      looked (HasAddress address) s s (λ number link. changed number (forgotten true_segments Without link) s)
      (freed true_segments Without address s) refl
      (λ none e. sym e)
      (λ number link found e.
      let l = h.highest number address (record { link = link; there = found.there; owns = at_is link.port.own address found.passed }) in
      absurd (omega arith))

  answers : (phase : Phase) (far address number : ℕ) (link : LinkOf TrueSegments) → is_called phase ≡ false → slice_get s.links number ≡ Some link →
      is_called link.port.phase ≡ true → most < address →
      Leaves (changed number (answered true_segments phase address link) (freed true_segments Without address s)) address
  answers phase far address number link differs there called less =
      subst (λ (x : Links). Leaves (changed number (answered true_segments phase address link) x) address) (sym (freed_same address less))
      (one_left (Some address) less number link (answered true_segments phase address link) there (inr (h.named number link there called, refl))
      (h.far number link there, λ c. absurd cc))

  pub user_addressed : (event : LinkEventValue) (left : Links) → Rises most event → UserDid true_segments s event left →
      Leaves left (higher most (given_address event))
  user_addressed event left less (Opens address free) =
      subst (λ (x : Links). Leaves (begun (opened true_segments address) x) address) (sym (freed_same address less))
      (one_more (opened true_segments address) less (λ far e. absurd cc, λ c. absurd cc))
  user_addressed event left less (Accepts far address number link found free) =
      answers Confirming far address number link refl found.there (and_parts (is_called link.port.phase) (is_at link.port.far far) found.passed).0
      less
  user_addressed event left less (Rejects far address number link found free) =
      answers Disconnecting far address number link refl found.there (and_parts (is_called link.port.phase) (is_at link.port.far far) found.passed).0
      less
  user_addressed event left less (HandsIn address message number link found may) =
      one_kept number link (with_segments (true_segments.hands_in message link.segments) link) found.there
      (record { own = refl; far = refl; partner = refl; called = λ c. c })
  user_addressed event left less (Delivers address message number link segments found is) =
      one_kept number link (with_segments segments link) found.there (record { own = refl; far = refl; partner = refl; called = λ c. c })
  user_addressed event left less (Closes address number link found connected) =
      one_kept number link (in_phase Disconnecting link) found.there (record { own = refl; far = refl; partner = refl; called = λ c. absurd cc })
  user_addressed event left less (Aborts address number link found calling) =
      one_kept number link (ended true_segments link) found.there (record { own = refl; far = refl; partner = refl; called = λ c. absurd cc })
  user_addressed event left less Boots = absurd less
