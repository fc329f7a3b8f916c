-- A step of one side beside the other: what is left of it is a step, or none.
use Rattle.dna_leaving.proofs.Prelude.{◌≡◌, ℕ, ◌<◌, ◌≤◌, Bool, true, false, not, cond, ◌⊎◌, inl, inr, Option, Some, None, List, [], map, length}
use Rattle.dna_leaving.proofs.Prelude.{Result, Ok, refl, sym, ap, ◌∙◌, arith, subst, option_map, ltb-true, slice_get, cases_lt, slice_get_within}
use Rattle.dna_leaving.proofs.Prelude.{NspValue, ConnectInitiate, ConnectConfirm, LinkRefusal, Queues, LinkOf, Carried, LinkEventValue}
use Rattle.dna_leaving.proofs.Prelude.{Accept, Reject, TrueSegments, Numbers, Links, SentMessage, LinkSide, LinkStep, Marks, rank, true_rules}
use Rattle.dna_leaving.proofs.Prelude.{LinkRecord, OfUser, Sends, Keeps, OfNoLink, next_links, LeftOut, nothing_out, is_out, Judged, link_left}
use Rattle.dna_leaving.proofs.Prelude.{links_left, renumbered, judged_then, LinkFits, AreFit, IsOfJudged, EventBinds, MessageBinds, IsRight}
use Rattle.dna_leaving.proofs.Prelude.{other_out, other_judged}
use Rattle.dna_links.specs.User as user
use Rattle.dna_leaving.proofs.Judged.{judged_alike, rank_alike}
use Rattle.dna_leaving.proofs.Answered.{IfMade}
use Rattle.dna_leaving.proofs.Steps.{next_fit, next_grows, next_nodes}
use Rattle.dna_leaving.proofs.After.{SameNodes}
use Rattle.dna_leaving.proofs.Lists.{marked_before, marked_then, stays_fit, made_alike}
use Rattle.dna_leaving.proofs.Units.{below, below_more, named_more, no_record_out, UnitRight, unit_more}

-- nothing is left out, beside a side that has so many links
abbrev pub all_beside : ℕ → Judged
all_beside there = record { here = λ n. true; there = below there }

pub record SideRight (out : LeftOut) (judged : Judged) (own other : LinkSide) : Type 0 where
  pub fit : AreFit out judged own.links
  -- each partner that a link knows is there
  pub known : AreFit nothing_out (all_beside (length other.links.links)) own.links
  pub sent : (place : ℕ) (unit : SentMessage) → slice_get own.sent place ≡ Some (Some unit) →
      UnitRight out judged (length own.links.links) (length other.links.links) unit

-- what is left of a step
pub data Follows (queues : Queues) (own other : LinkSide) : List LinkEventValue → LinkSide → Type 0 where
  Stays : Follows queues own other [] own
  Does : {events : List LinkEventValue} {left : LinkSide} → LinkStep queues own other events left → Follows queues own other events left

pub follows_as : {queues : Queues} {own other : LinkSide} (events : List LinkEventValue) (left : LinkSide) (more : List LinkEventValue)
    (further : LinkSide) →
    events ≡ more → left ≡ further → Follows queues own other events left → Follows queues own other more further
follows_as {queues} {own} {other} events left more further e f follows =
    subst (λ (x : LinkSide). Follows queues own other more x) f (subst (λ (es : List LinkEventValue). Follows queues own other es left) e follows)

same_ok : {X : Type 0} (x y : X) → ◌≡◌ {A = Result X LinkRefusal} (Ok x) (Ok y) → x ≡ y
same_ok x y e = cc

-- numbers below this have the same rank
pub rank_as : (marks other : Marks) (size : ℕ) → ((n : ℕ) → n < size → marks n ≡ other n) → (number : Option ℕ) → IsOfJudged (below size) number →
    option_map (rank marks) number ≡ option_map (rank other) number
rank_as marks other size same None is = refl
rank_as marks other size same (Some n) is =
    ap Some (rank_alike marks other n (λ k less. let l = ltb-true n size is in same k (omega (arith, l, less))))

module _ (queues : Queues) (out : LeftOut) (judged : Judged) (own other : LinkSide) (mine : SideRight out judged own other)
    (theirs : SideRight (other_out out) (other_judged judged) other own) where
  abbrev own_size : ℕ
  own_size = length own.links.links

  abbrev other_size : ℕ
  other_size = length other.links.links

  -- what has to hold of a record of this side
  pub record RecordRight (one : LinkRecord Numbers) : Type 0 where
    pub right : IsRight out (judged_then out judged own.links one) one
    pub right_of_all : IsRight nothing_out (all_beside other_size) one

  none_binds : (event : LinkEventValue) → EventBinds nothing_out event
  none_binds (Accept far link) = refl
  none_binds (Reject far link) = refl
  none_binds event = tt

  pub event_right : (event : LinkEventValue) → user.IsInRange event → EventBinds out event → RecordRight (OfUser event)
  event_right event range binds = record { right = (range, binds); right_of_all = (range, none_binds event) }

  pub packet_right : (packet : Carried) → RecordRight (Sends packet)
  packet_right packet = record { right = tt; right_of_all = tt }

  -- one that the other end sent
  module _ (unit : SentMessage) (u : UnitRight (other_out out) (other_judged judged) other_size own_size unit) where
    then_judged : is_out out (Keeps unit.packet unit.truth) ≡ false → (number : Option ℕ) → IsOfJudged judged.here number →
        IsOfJudged (judged_then out judged own.links (Keeps unit.packet unit.truth)).here number
    then_judged is number of_judged =
        named_more judged.here (judged_then out judged own.links (Keeps unit.packet unit.truth)).here (λ n here. at n here
        (cases_lt n own_size)) number of_judged
      where
        at : (n : ℕ) → judged.here n ≡ true → (n < own_size) ⊎ (own_size ≤ n) →
            (judged_then out judged own.links (Keeps unit.packet unit.truth)).here n ≡ true
        at n here (inl less) = marked_before judged.here own_size (not (is_out out (Keeps unit.packet unit.truth))) n less ∙ here
        at n here (inr more) = marked_then judged.here own_size (not (is_out out (Keeps unit.packet unit.truth))) n more ∙ ap not is

    none_bound : (m : NspValue) → MessageBinds out m → MessageBinds nothing_out m
    none_bound (ConnectInitiate retransmitted src services info segsize user_data) binds = λ none. refl
    none_bound (ConnectConfirm dst src services info segsize user_data) binds = (λ none. refl, λ one. refl)
    none_bound m binds = tt

    pub unit_right : RecordRight (Keeps unit.packet unit.truth)
    unit_right = record {
      right = (
        u.binds,
        λ is. let named = u.named (u.stays is) in
            record { link = named.link; partner = then_judged is unit.truth.tag.partner named.partner },
      );
      right_of_all = (
        none_bound unit.packet.message u.binds,
        λ is. record { link = u.there_is.link; partner = any unit.truth.tag.partner },
      );
    }
      where
        any : (number : Option ℕ) → IsOfJudged (λ n. true) number
        any None = tt
        any (Some n) = refl

  -- ---- a record that is made

  module _ (one : LinkRecord Numbers) (r : RecordRight one) (left : Links) (made_is : next_links (true_rules queues) own.links one ≡ Ok left) where
    pub known_next : AreFit nothing_out (all_beside other_size) left
    known_next =
        subst (IfMade (AreFit nothing_out (all_beside other_size))) made_is
        (next_fit (true_rules queues) nothing_out (all_beside other_size) own.links mine.known true one (no_record_out one) r.right_of_all refl)

    pub grows : own_size ≤ length left.links
    grows =
        subst (IfMade (λ (x : Links). own_size ≤ length x.links)) made_is
        (next_grows (true_rules queues) nothing_out (all_beside other_size) own.links mine.known true one (no_record_out one) r.right_of_all)

    pub same_nodes : SameNodes queues (true_rules queues).book own.links left
    same_nodes =
        subst (IfMade (SameNodes queues (true_rules queues).book own.links)) made_is
        (next_nodes (true_rules queues) nothing_out (all_beside other_size) own.links mine.known true one (no_record_out one) r.right_of_all)

  module _ (one : LinkRecord Numbers) (r : RecordRight one) (left : Links) (made_is : next_links (true_rules queues) own.links one ≡ Ok left)
      (marks : (n : ℕ) → own_size ≤ n → n < length left.links → judged.here n ≡ not (is_out out one)) where
    abbrev then : Judged
    then = judged_then out judged own.links one

    pub agrees : (n : ℕ) → n < length left.links → then.here n ≡ judged.here n
    agrees n less = go (cases_lt n own_size)
      where
        go : (n < own_size) ⊎ (own_size ≤ n) → then.here n ≡ judged.here n
        go (inl before) = marked_before judged.here own_size (not (is_out out one)) n before
        go (inr more) = marked_then judged.here own_size (not (is_out out one)) n more ∙ sym (marks n more less)

    pub links_next : links_left then left ≡ links_left judged left
    links_next =
        ap (λ (links : List (LinkOf TrueSegments)). record left { links = map (link_left judged.there) links })
        (judged_alike then.here judged.here left.links agrees)

    fit_next : AreFit out judged left
    fit_next n l there =
        subst (λ (b : Bool). LinkFits out judged.there b l) (agrees n (slice_get_within left.links n l there))
        (stays_fit (true_rules queues) out judged own.links mine.fit one r.right left made_is n l there)

    -- what is left goes along
    pub left_is : is_out out one ≡ false → next_links (true_rules queues) (links_left judged own.links) (renumbered then one) ≡ Ok
        (links_left judged left)
    left_is is =
        ap (λ (b : Bool). next_links (true_rules queues) (links_left judged own.links) (cond b OfNoLink (renumbered then one))) (sym is)
        ∙ made_alike (true_rules queues) out judged own.links mine.fit one r.right left made_is ∙ ap Ok links_next

    pub unseen : is_out out one ≡ true → links_left judged own.links ≡ links_left judged left
    unseen is =
        same_ok (links_left judged own.links) (links_left judged left)
        (ap (λ (b : Bool). next_links (true_rules queues) (links_left judged own.links) (cond b OfNoLink (renumbered then one))) (sym is)
        ∙ made_alike (true_rules queues) out judged own.links mine.fit one r.right left made_is ∙ ap Ok links_next)

    -- both sides are right after it
    pub mine_next : (sent : List (Option SentMessage)) (front : ℕ) →
        ((place : ℕ) (unit : SentMessage) → slice_get sent place ≡ Some (Some unit) → UnitRight out judged (length left.links) other_size unit) →
        SideRight out judged (record { links = left; sent = sent; front = front }) other
    mine_next sent front units = record { fit = fit_next; known = known_next one r left made_is; sent = units }

    pub sent_before : (place : ℕ) (unit : SentMessage) → slice_get own.sent place ≡ Some (Some unit) →
        UnitRight out judged (length left.links) other_size unit
    sent_before place unit there =
        unit_more out judged own_size (length left.links) other_size other_size unit (grows one r left made_is) (omega arith)
        (mine.sent place unit there)

    pub theirs_next : (sent : List (Option SentMessage)) (front : ℕ) →
        SideRight (other_out out) (other_judged judged) other (record { links = left; sent = sent; front = front })
    theirs_next sent front = record {
      fit = theirs.fit;
      known = λ n l there. let k = theirs.known n l there in
          record {
            own = k.own;
            far = k.far;
            partner = λ is.
                named_more (below own_size) (below (length left.links)) (λ i at. below_more own_size (length left.links) i
                (grows one r left made_is) at) l.partner (k.partner is);
          };
      sent = λ place unit there.
          unit_more (other_out out) (other_judged judged) other_size other_size own_size (length left.links) unit (omega arith)
          (grows one r left made_is)
          (theirs.sent place unit there);
    }
