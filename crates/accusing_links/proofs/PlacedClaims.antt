-- What is claimed holds of each unit of a side for which records exist.
use Rattle.accusing_links.proofs.Prelude.{◌≡◌, ℕ, ◌+◌, ◌<◌, ◌≤◌, Bool, true, false, Some, Ok, List, [], ◌∷◌, ◌++◌, refl, sym, subst, ap, ◌∙◌, ◌⊎◌}
use Rattle.accusing_links.proofs.Prelude.{inl, inr, arith, append_assoc, append-nil, MessageValue, IsBytes, ReadingValue, reading, Sound, Malformed}
use Rattle.accusing_links.proofs.Prelude.{Fate, NotKept, Record, Event, IsInRange, Head, body_of, resp_of, Queues, LinkTag, of_anyone, Carried}
use Rattle.accusing_links.proofs.Prelude.{WireLinks, wire_links_arrived, content, WireLayers, LayersTag, new_wire_layers_node, to_wire_station}
use Rattle.accusing_links.proofs.Prelude.{content_in_range, Passed, Own, Other, IsDamage, comes, IsPlacedFrom, Ends, Passes, Sends, Hears}
use Rattle.accusing_links.proofs.Prelude.{HearsNoise, Acts, byte_of, node_machine, NameLinks, IsNodePlacing, packet_in, shown_by, call_of, bit}
use Rattle.accusing_links.proofs.Prelude.{calls_of}
use Rattle.ddcmp_msg.specs.Reading.{HeaderBad, DataBad}
use Rattle.dna_station.specs.Book as arrival
use Rattle.accusing_links.proofs.Nodes.{MayCome, sends_right, acts_right}
use Rattle.accusing_links.proofs.Numbered.{IsNumbered, HasByte, arrives_numbered, user_numbered}
use Rattle.accusing_links.proofs.Inverted.{LinksMade, Nothing, Did, Composed, IsSent, Again, NoMessage, First, is_sent, IsMet, is_met_as, HasActed}
use Rattle.accusing_links.proofs.Inverted.{Alone, Both, has_acted}
use Rattle.accusing_links.proofs.Inverted as met
use Rattle.accusing_links.proofs.RightNode.{N, Is, Fine, Comes, kept, Right, Came, message_may, damage_right, comes_right}
use Rattle.accusing_links.proofs.Final.{UnitCame, AllCame, all_behind, first_right}
use Rattle.accusing_links.proofs.{AllFollow.all_same, FollowSends.sent_follows, Shown.shown_call, Claims.Claim}
use Rattle.accusing_links.proofs.FollowSteps.{IsPlain, user_follows, arrived_follows, arrived_one}
use Rattle.accusing_links.proofs.Phases.{calls_in, calls_behind}
use Rattle.accusing_links.proofs.Phases.{call_plain, call_connect, IsPhase, Follow, phase_follows}
use Rattle.accusing_links.proofs.Onwards.{Q, said, Gone}
use Rattle.accusing_links.proofs.NoneBack.{State, other_state, sent_state}

same_message : {K : Type 0} (m n : MessageValue) (tag known : K) →
    ◌≡◌ {A = arrival.ArrivalValue K} (arrival.Sound m tag) (arrival.Sound n known) → m ≡ n
same_message m n tag known e = cc

-- damage
abbrev IsBad : {K : Type 0} → arrival.ArrivalValue K → Type 0
IsBad (arrival.Sound m tag) = ⊥
IsBad arrival.HeaderBad = Unit {0}
IsBad arrival.DataBad = Unit {0}

no_message : {K X : Type 0} (r : arrival.ArrivalValue K) (m : MessageValue) (known : K) → IsBad r → r ≡ arrival.Sound m known → X
no_message arrival.HeaderBad m known bad e = absurd cc
no_message arrival.DataBad m known bad e = absurd cc
no_message (arrival.Sound n tag) m known bad e = absurd bad

module _ (queues : Queues) (head : Head) (own far : ℕ) (before : List Passed) (s : WireLayers) where
  abbrev Phase : (coming : ℕ) → WireLinks → Type 0
  Phase coming links = IsPhase queues own far (Q own far before) (calls_of before far) coming (said own far before) links.links

  stay : (coming rest : ℕ) (links : WireLinks) → rest ≤ coming → Follow queues own far (Q own far before) s.links.links links.links →
      Phase coming s.links → Phase rest links
  stay coming rest links less follows is =
      phase_follows queues own far (Q own far before) (calls_of before far) coming rest (said own far before) (said own far before)
      s.links.links links.links less (λ n e. e) follows is

  unmoved : Follow queues own far (Q own far before) s.links.links s.links.links
  unmoved least = all_same queues own far least (Q own far before) s.links.links

  -- ---- what the user does

  made_follows : (links : WireLinks) → LinksMade queues s.links links → Follow queues own far (Q own far before) s.links.links links.links
  made_follows links Nothing least = unmoved least
  made_follows links (Did event e) least = user_follows (N queues head before) queues own far least s.links event links e
  made_follows links (Composed packet body sent is e) least =
      sent_follows (N queues head before) queues own far s.links least packet (content_in_range body packet is) sent e

  acted_state : (coming : List (List ℕ)) (after : WireLayers) (event : Event) → State queues head own far before s coming →
      HasActed queues s event after → Right queues head before after → State queues head own far before after coming
  acted_state coming after event is (Alone {links = links} made) right = record {
    right = right;
    came = is.came;
    numbered = is.numbered;
    less = is.less;
    phase = λ few. stay (calls_in coming far) (calls_in coming far) links (omega arith) (made_follows links made) (is.phase few);
  }
  acted_state coming after event is (Both {links = links} station e made) right = record {
    right = right;
    came = is.came;
    numbered = user_numbered (Gone before) s.station station event e is.numbered;
    less = is.less;
    phase = λ few. stay (calls_in coming far) (calls_in coming far) links (omega arith) (made_follows links made) (is.phase few);
  }

  -- ---- what comes

  module _ (coming : List (List ℕ)) (is : State queues head own far before s coming) where
    -- a packet that is met, in a message that passed or is coming
    met_phase : (m : MessageValue) (packet : Carried) (tag : LinkTag) (links : WireLinks) (rest : ℕ) →
        content (body_of m) ≡ Ok (Some packet) → wire_links_arrived queues of_anyone s.links packet tag ≡ Ok links →
        Came queues head before (packet_in (Sound m)) →
        bit (shown_by call_of (packet_in (Sound m)) 0 0 far) + rest ≤ calls_in coming far → calls_of before far ≤ 1 → Phase rest links
    met_phase m packet tag links rest at made came less few = go (call_of packet.message 0 0 far) refl
      where
        comes_so : Comes queues head before packet
        comes_so = subst (MayCome (Comes queues head before)) at (message_may queues head before m came)

        small : IsInRange packet.message
        small = content_in_range (body_of m) packet at

        plain : IsPlain far packet.message → Follow queues own far (Q own far before) s.links.links links.links
        plain is_plain least =
            arrived_follows (N queues head before) queues own far least s.links of_anyone packet tag small comes_so.segment is_plain links made

        first : call_of packet.message 0 0 far ≡ true → Phase (calls_in coming far) s.links → Phase rest links
        first e (inl b) =
            let counted : bit (shown_by call_of (packet_in (Sound m)) 0 0 far) ≡ 1 = ap bit (shown_call m packet 0 0 far at ∙ e) in
            let all = is.less in
            inr (record {
              came = omega (arith, counted, less, all);
              last = omega (arith, counted, less, all, few);
              one = arrived_one (N queues head before) queues own far 0 s.links of_anyone packet tag b.none
                  (call_connect far packet.message e) links made;
              all = λ n f. absurd (b.silent n f);
            })
        first e (inr a) =
            let counted : bit (shown_by call_of (packet_in (Sound m)) 0 0 far) ≡ 1 = ap bit (shown_call m packet 0 0 far at ∙ e) in
            let none = a.last in
            absurd (omega (arith, counted, less, none))

        go : (b : Bool) → call_of packet.message 0 0 far ≡ b → Phase rest links
        go false e =
            stay (calls_in coming far) rest links (omega (arith, less)) (plain (call_plain far packet.message e)) (is.phase few)
        go true e = first e (is.phase few)

    heard : (later : List (List ℕ)) (after : WireLayers) → Right queues head before after → AllCame queues head before later →
        IsNumbered (Gone before) after.station → calls_in later far ≤ calls_in coming far →
        (calls_of before far ≤ 1 → Phase (calls_in later far) after.links) → State queues head own far before after later
    heard later after right came numbered less phase = record {
      right = right;
      came = came;
      numbered = numbered;
      less = let l = is.less in omega (arith, less, l);
      phase = phase;
    }

    -- damage or noise, or what is not met
    same_heard : (later : List (List ℕ)) (after : WireLayers) → after.links ≡ s.links → Right queues head before after →
        AllCame queues head before later → IsNumbered (Gone before) after.station → calls_in later far ≤ calls_in coming far →
        State queues head own far before after later
    same_heard later after same right came numbered less =
        heard later after right came numbered less (λ few.
        subst (Phase (calls_in later far)) (sym same) (stay (calls_in coming far) (calls_in later far) s.links less unmoved (is.phase few)))

    damaged : (later : List (List ℕ)) (after : WireLayers) (r : arrival.ArrivalValue LayersTag) (fate : Fate) → IsBad r →
        (node_machine queues).arrives s r fate ≡ Ok after → Right queues head before after → AllCame queues head before later →
        calls_in later far ≤ calls_in coming far → State queues head own far before after later
    damaged later after r fate bad e right came less = go after (is_met_as queues s after r fate e) right
      where
        byte : (a : arrival.ArrivalValue LayersTag) → IsBad a → HasByte (to_wire_station a)
        byte (arrival.Sound m tag) is_bad = absurd is_bad
        byte arrival.HeaderBad is_bad = tt
        byte arrival.DataBad is_bad = tt

        go : (made : WireLayers) → IsMet queues s r fate made → Right queues head before made → State queues head own far before made later
        go made (met.Passed station e) right =
            same_heard later made refl right came
            (arrives_numbered (Gone before) s.station station (to_wire_station r) fate e (byte r bad) is.numbered) less
        go made (met.Kept station m known packet tag links at e content_is done) right = no_message r m known bad at

    sound : (later : List (List ℕ)) (after : WireLayers) (m : MessageValue) (tag : LayersTag) (fate : Fate) →
        (node_machine queues).arrives s (arrival.Sound m tag) fate ≡ Ok after → Right queues head before after → AllCame queues head before later →
        resp_of m < 256 → Came queues head before (packet_in (Sound m)) →
        bit (shown_by call_of (packet_in (Sound m)) 0 0 far) + calls_in later far ≤ calls_in coming far → State queues head own far before after later
    sound later after m tag fate e right came byte passed less = go after (is_met_as queues s after (arrival.Sound m tag) fate e) right
      where
        go : (made : WireLayers) → IsMet queues s (arrival.Sound m tag) fate made → Right queues head before made →
            State queues head own far before made later
        go made (met.Passed station e) right =
            same_heard later made refl right came
            (arrives_numbered (Gone before) s.station station (to_wire_station (arrival.Sound m tag)) fate e byte is.numbered) (omega (arith, less))
        go made (met.Kept station n known packet of_link links at e content_is done) right =
            let same = same_message m n tag known at in
            heard later made right came
            (arrives_numbered (Gone before) s.station station (to_wire_station (arrival.Sound m tag)) fate e byte is.numbered) (omega (arith, less))
            (met_phase m packet of_link links (calls_in later far)
            (subst (λ (x : MessageValue). content (body_of x) ≡ Ok (Some packet)) (sym same) content_is) done passed less)

module _ (queues : Queues) (head : Head) (own far : ℕ) where
  heard_state : (before : List Passed) (s after : WireLayers) (coming rest : List (List ℕ)) (unit bytes : List ℕ) (tag : LayersTag) (fate : Fate) →
      State queues head own far before s coming → (bytes ≡ unit) ⊎ IsDamage (reading bytes) → IsBytes bytes → (r : ReadingValue) →
      reading bytes ≡ r → comes (node_machine queues) s tag fate r ≡ Ok after → Right queues head before after → AllCame queues head before rest →
      UnitCame queues head before unit →
      bit (shown_by call_of (packet_in (reading unit)) 0 0 far) + calls_in rest far ≤ calls_in coming far →
      State queues head own far before after rest
  heard_state before s after coming rest unit bytes tag fate is how byte (Sound m) read e right came passed less = go how
    where
      go : (bytes ≡ unit) ⊎ IsDamage (reading bytes) → State queues head own far before after rest
      go (inl same) =
          let unit_read : reading unit ≡ Sound m = ap reading (sym same) ∙ read in
          sound queues head own far before s coming is rest after m tag fate e right came (byte_of bytes byte m read)
          (subst (λ (r : ReadingValue). Came queues head before (packet_in r)) unit_read passed)
          (subst (λ (r : ReadingValue). bit (shown_by call_of (packet_in r) 0 0 far) + calls_in rest far ≤ calls_in coming far) unit_read less)
      go (inr damage) = absurd (subst IsDamage read damage)
  heard_state before s after coming rest unit bytes tag fate is how byte HeaderBad read e right came passed less =
      damaged queues head own far before s coming is rest after arrival.HeaderBad fate tt e right came (omega (arith, less))
  heard_state before s after coming rest unit bytes tag fate is how byte DataBad read e right came passed less =
      damaged queues head own far before s coming is rest after arrival.DataBad fate tt e right came (omega (arith, less))
  heard_state before s after coming rest unit bytes tag fate is how byte (Malformed departure) read e right came passed less =
      let same : s ≡ after = cc in
      same_heard queues head own far before s coming is rest after (ap (λ (x : WireLayers). x.links) (sym same)) right came
      (subst (λ (x : WireLayers). IsNumbered (Gone before) x.station) same is.numbered) (omega (arith, less))

  noise_state : (before : List Passed) (s after : WireLayers) (coming : List (List ℕ)) (tag : LayersTag) → State queues head own far before s coming →
      (r : ReadingValue) → IsDamage r → comes (node_machine queues) s tag NotKept r ≡ Ok after → Right queues head before after →
      State queues head own far before after coming
  noise_state before s after coming tag is HeaderBad damage e right =
      damaged queues head own far before s coming is coming after arrival.HeaderBad NotKept tt e right is.came (omega arith)
  noise_state before s after coming tag is DataBad damage e right =
      damaged queues head own far before s coming is coming after arrival.DataBad NotKept tt e right is.came (omega arith)
  noise_state before s after coming tag is (Sound m) damage e right = absurd damage
  noise_state before s after coming tag is (Malformed departure) damage e right = absurd damage

  -- ---- all records

  abbrev AllClaims : List Passed → List Passed → Type 0
  AllClaims before [] = Unit {0}
  AllClaims before (Own unit ∷ passed) =
      ((m : MessageValue) → reading unit ≡ Sound m → Claim queues own far before m) × AllClaims (before ++ Own unit ∷ []) passed
  AllClaims before (Other unit ∷ passed) = AllClaims (before ++ Other unit ∷ []) passed

  one_reading : (m n : MessageValue) (r : ReadingValue) → r ≡ Sound m → r ≡ Sound n → m ≡ n
  one_reading m n r e f = cc

  all_claims : {s : WireLayers} {front : ℕ} {coming : List (List ℕ)} {passed : List Passed} {records : List Record} →
      IsPlacedFrom (node_machine queues) s front coming passed records → NameLinks records → (before : List Passed) →
      State queues head own far before s coming → AllClaims before passed
  all_claims Ends names before is = tt
  all_claims (Passes {s = s} {coming = coming} {unit = unit} later) names before is =
      all_claims later names (before ++ Other unit ∷ []) (other_state queues head own far before unit s coming is)
  all_claims (Sends {s = s} {coming = coming} {unit = unit} m after known read made later) names before is =
      let right = (sends_right queues (Is queues head before) (Fine queues head before) (Comes queues head before) (kept queues head before) s after m
      known made is.right).0 in
      let all = sent_state queues head own far before unit s coming is m read after (is_sent queues s m after known made) right in (
        λ n also. subst (Claim queues own far before) (one_reading m n (reading unit) read also) all.0,
        all_claims later names (before ++ Own unit ∷ []) all.1,
      )
  all_claims (Hears {s = s} {coming = coming} lost unit rest are hint hinted bytes byte how tag fate after made later) names before is =
      let all = all_behind queues head before lost unit rest (subst (AllCame queues head before) are is.came) in
      let right = comes_right queues head before s after tag fate unit bytes how all.0 made is.right in
      let less = subst (λ (units : List (List ℕ)).
      bit (shown_by call_of (packet_in (reading unit)) 0 0 far) + calls_in rest far ≤ calls_in units far) (sym are)
      (calls_behind lost unit rest far) in
      all_claims later names before
      (heard_state before s after coming rest unit bytes tag fate is how byte (reading bytes) refl made right all.1 all.0 less)
  all_claims (HearsNoise {s = s} {coming = coming} bytes damage tag after made later) names before is =
      all_claims later names before
      (noise_state before s after coming tag is (reading bytes) damage made
      (damage_right queues head before s after tag NotKept (reading bytes) damage made is.right))
  all_claims (Acts {s = s} {coming = coming} event after made later) names before is =
      all_claims later names.1 before
      (acted_state queues head own far before s coming after event is (has_acted queues s after event made)
      (acts_right queues (Is queues head before) (Fine queues head before) (Comes queues head before) (kept queues head before) s after event names.0
      made is.right))

  first_state : State queues head own far [] (new_wire_layers_node head).station []
  first_state = record {
    right = first_right queues head;
    came = tt;
    numbered = record { byte = omega arith; given = tt };
    less = omega arith;
    phase = λ few. inl (record { none = tt; silent = λ n e. absurd cc });
  }

  one_claim : (start before : List Passed) (unit : List ℕ) (later : List Passed) → AllClaims start (before ++ Own unit ∷ later) → (m : MessageValue) →
      reading unit ≡ Sound m → Claim queues own far (start ++ before) m
  one_claim start [] unit later all m read =
      subst (λ (x : List Passed). Claim queues own far x m) (sym (append-nil start)) (all.0 m read)
  one_claim start (Own first ∷ before) unit later all m read =
      subst (λ (x : List Passed). Claim queues own far x m) (append_assoc start (Own first ∷ []) before)
      (one_claim (start ++ Own first ∷ []) before unit later all.1 m read)
  one_claim start (Other first ∷ before) unit later all m read =
      subst (λ (x : List Passed). Claim queues own far x m) (append_assoc start (Other first ∷ []) before)
      (one_claim (start ++ Other first ∷ []) before unit later all m read)

  pub claim_of : (before later : List Passed) (unit : List ℕ) (records : List Record) (m : MessageValue) → reading unit ≡ Sound m →
      IsNodePlacing queues head (before ++ Own unit ∷ later) records → Claim queues own far before m
  claim_of before later unit records m read placing = one_claim [] before unit later (all_claims placing.0 placing.1 [] first_state) m read
