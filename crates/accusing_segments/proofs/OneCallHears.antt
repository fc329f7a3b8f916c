-- What comes keeps it that one link alone has these addresses, until a second call came.
use Rattle.accusing_segments.proofs.Prelude.{◌≡◌, ℕ, ◌+◌, ◌≤◌, Bool, true, false, eqb, Option, Some, None, Ok, List, refl, sym, subst, ap, ◌∙◌, ◌⊎◌}
use Rattle.accusing_segments.proofs.Prelude.{inl, inr, arith, eqb-true, or_left, or_right, eq-eqb, MessageValue, ReadingValue, reading, Sound}
use Rattle.accusing_segments.proofs.Prelude.{HeaderBad, DataBad, Malformed, Fate, NspValue, DataSegment, LinkService, DataAck, OtherDataAck}
use Rattle.accusing_segments.proofs.Prelude.{ConnectAck, NoOperation, ConnectInitiate, ConnectConfirm, DisconnectInitiate, DisconnectConfirm}
use Rattle.accusing_segments.proofs.Prelude.{body_of, Queues, LinkTag, Carried, of_anyone, WireLinks, wire_links_arrived, content, WireLayers}
use Rattle.accusing_segments.proofs.Prelude.{LayersTag, content_in_range, Passed, IsDamage, comes, node_machine, Good, AreHeld, in_unit, calls}
use Rattle.dna_station.specs.Book as arrival
use Rattle.accusing_segments.proofs.{SentPieces.Shown, RightLinks.Links, Nodes.IsRight, Nodes.In, OneCallFirst.call_arrived, OneCallNodes.WasSent}
use Rattle.accusing_segments.proofs.{OneCallNodes.arrives_mine}
use Rattle.accusing_segments.proofs.Passing.{come_now, Came, in_unit_is, this_is}
use Rattle.accusing_segments.proofs.OneCallSteps.{IsCall, AllMine, other_arrived}
use Rattle.accusing_segments.proofs.SentUnits.{SentIn, is_call, one_more, passed_calls, coming_calls}
use Rattle.accusing_segments.proofs.OneCallSo.{Now, has, IsSo, AreTwo}

module _ (queues : Queues) (own far : ℕ) where
  abbrev Sent : List Passed → Shown
  Sent passed = SentIn queues own far passed

  abbrev At : List Passed → Links
  At before = Now queues own far before

  -- ---- what comes

  is_call_of : (unit : List ℕ) (m : MessageValue) (packet : Carried) → reading unit ≡ Sound m → content (body_of m) ≡ Ok (Some packet) →
      IsCall own far packet.message → is_call queues own far unit ≡ true
  is_call_of unit m packet read is call = go packet.message refl call
    where
      said : (o : ℕ) (x : NspValue) → packet.message ≡ x → calls x o far 0 0 ≡ true → in_unit calls unit o far 0 0 ≡ true
      said o x same e = in_unit_is calls unit m packet read is o far 0 0 ∙ (ap (λ (y : NspValue). calls y o far 0 0) same ∙ e)

      go : (x : NspValue) → packet.message ≡ x → IsCall own far x → is_call queues own far unit ≡ true
      go (ConnectInitiate retransmitted src services info segsize user_data) same call =
          or_left _ _ (said 0 (ConnectInitiate retransmitted src services info segsize user_data) same
          (subst (λ (x : ℕ). calls (ConnectInitiate retransmitted src services info segsize user_data) 0 x 0 0 ≡ true) call (this_is 0 src 0 0)))
      go (ConnectConfirm dst src services info segsize user_data) same call =
          or_right _ _ (said own (ConnectConfirm dst src services info segsize user_data) same
          (subst (λ (x : ℕ). calls (ConnectConfirm dst src services info segsize user_data) x far 0 0 ≡ true) call.0
          (subst (λ (x : ℕ). calls (ConnectConfirm dst src services info segsize user_data) dst x 0 0 ≡ true) call.1 (this_is dst src 0 0))))
      go (DataSegment segment) same call = absurd call
      go (DataAck dst src acks) same call = absurd call
      go (LinkService interrupt dst src rest) same call = absurd call
      go (OtherDataAck dst src rest) same call = absurd call
      go (ConnectAck dst) same call = absurd call
      go (NoOperation rest) same call = absurd call
      go (DisconnectInitiate dst src reason user_data) same call = absurd call
      go (DisconnectConfirm dst src reason) same call = absurd call

  decide_call : (m : NspValue) → IsCall own far m ⊎ (IsCall own far m → ⊥)
  decide_call (ConnectInitiate retransmitted src services info segsize user_data) = go (eqb src far) refl
    where
      go : (b : Bool) → eqb src far ≡ b → (src ≡ far) ⊎ (src ≡ far → ⊥)
      go true e = inl (eqb-true src far e)
      go false e = inr (λ same. let yes = eq-eqb src far same in absurd cc)
  decide_call (ConnectConfirm dst src services info segsize user_data) = go (eqb dst own) (eqb src far) refl refl
    where
      go : (a b : Bool) → eqb dst own ≡ a → eqb src far ≡ b → ((dst ≡ own) × (src ≡ far)) ⊎ ((dst ≡ own) × (src ≡ far) → ⊥)
      go true true e f = inl (eqb-true dst own e, eqb-true src far f)
      go true false e f = inr (λ same. let yes = eq-eqb src far same.1 in absurd cc)
      go false b e f = inr (λ same. let yes = eq-eqb dst own same.0 in absurd cc)
  decide_call (DataSegment segment) = inr (λ call. call)
  decide_call (DataAck dst src acks) = inr (λ call. call)
  decide_call (LinkService interrupt dst src rest) = inr (λ call. call)
  decide_call (OtherDataAck dst src rest) = inr (λ call. call)
  decide_call (ConnectAck dst) = inr (λ call. call)
  decide_call (NoOperation rest) = inr (λ call. call)
  decide_call (DisconnectInitiate dst src reason user_data) = inr (λ call. call)
  decide_call (DisconnectConfirm dst src reason) = inr (λ call. call)

  module _ (before : List Passed) (coming : List (List ℕ)) (s after : WireLayers) (is : IsSo queues own far before coming s)
      (right : IsRight queues (At before) after) where
    abbrev StillOne : WireLinks → Type 0
    StillOne x = AllMine queues own far (Sent before) (At before) is.one x.links

    abbrev SomeOne : WireLinks → Type 0
    SomeOne x = (one : Option ℕ) × AllMine queues own far (Sent before) (At before) one x.links

    -- no call came
    same_so : (later : List (List ℕ)) → coming_calls queues own far later ≤ coming_calls queues own far coming →
        StillOne after.links × AreHeld (In (WasSent queues own far (Sent before))) after.station.variables.held →
        IsSo queues own far before later after
    same_so later fewer left = record {
      one = is.one;
      right = right;
      held = record { links = left.0; held = left.1 };
      none = is.none;
      agree = is.agree;
      calls = let was = is.calls in omega (arith, fewer, was);
    }

    -- damage came
    pub damage_so : (later : List (List ℕ)) → coming_calls queues own far later ≤ coming_calls queues own far coming → (tag : LayersTag) (fate : Fate)
        (r : ReadingValue) → IsDamage r → comes (node_machine queues) s tag fate r ≡ Ok after → IsSo queues own far before later after
    damage_so later fewer tag fate HeaderBad damage e =
        same_so later fewer (arrives_mine queues own far (Sent before) (At before) StillOne s is.held.links after
        arrival.HeaderBad fate e tt is.held.held)
    damage_so later fewer tag fate DataBad damage e =
        same_so later fewer (arrives_mine queues own far (Sent before) (At before) StillOne s is.held.links after
        arrival.DataBad fate e tt is.held.held)
    damage_so later fewer tag fate (Sound m) damage e = absurd damage
    damage_so later fewer tag fate (Malformed departure) damage e = absurd damage

    module _ (later : List (List ℕ)) (unit : List ℕ) (came : Came before unit)
        (fewer : one_more queues own far (is_call queues own far unit) (coming_calls queues own far later) ≤ coming_calls queues own far coming) where
      abbrev IsThen : Type 0
      IsThen = AreTwo queues own far before ⊎ IsSo queues own far before later after

      less : (b : Bool) → one_more queues own far b (coming_calls queues own far later) ≤ coming_calls queues own far coming →
          coming_calls queues own far later ≤ coming_calls queues own far coming
      less true l = omega (arith, l)
      less false l = l

      -- the first call may have come
      some_one : one_more queues own far true (coming_calls queues own far later) ≤ coming_calls queues own far coming → is.one ≡ None →
          SomeOne after.links × AreHeld (In (WasSent queues own far (Sent before))) after.station.variables.held → IsThen
      some_one fits e left = inr (record {
        one = left.0.0;
        right = right;
        held = record { links = left.0.1; held = left.1 };
        none = λ f. is.none e;
        agree = is.agree;
        calls = at_most left.0.0;
      })
        where
          at_most : (o : Option ℕ) → coming_calls queues own far later + has queues own far o ≤ passed_calls queues own far before
          at_most None = let was = is.calls in omega (arith, fits, was)
          at_most (Some i) = let was = is.calls in omega (arith, fits, was)

      module _ (m : MessageValue) (tag : LayersTag) (fate : Fate) (read : reading unit ≡ Sound m)
          (made : (node_machine queues).arrives s (arrival.Sound m tag) fate ≡ Ok after) where
        other_good : (packet : Carried) → content (body_of m) ≡ Ok (Some packet) → (of : LinkTag) → (IsCall own far packet.message → ⊥) →
            Good StillOne (wire_links_arrived queues of_anyone s.links packet of)
        other_good packet there of other =
            other_arrived queues own far (Sent before) (At before) s.links is.right.links is.one is.held.links
            of_anyone packet of (content_in_range (body_of m) packet there) (come_now true before unit m packet read there came) other

        any_good : is.one ≡ None → (packet : Carried) → content (body_of m) ≡ Ok (Some packet) → (of : LinkTag) →
            Good SomeOne (wire_links_arrived queues of_anyone s.links packet of)
        any_good e packet there of = go (decide_call packet.message)
          where
            go : IsCall own far packet.message ⊎ (IsCall own far packet.message → ⊥) →
                Good SomeOne (wire_links_arrived queues of_anyone s.links packet of)
            go (inl call) =
                call_arrived queues own far (Sent before) (At before) s.links is.right.links
                (subst (λ (o : Option ℕ). AllMine queues own far (Sent before) (At before) o s.links.links) e
                is.held.links)
                (is.none e) of_anyone packet of call
            go (inr other) = λ links same. (is.one, other_good packet there of other links same)

        sound_so : IsThen
        sound_so = go (is_call queues own far unit) refl is.one refl
          where
            go : (b : Bool) → is_call queues own far unit ≡ b → (o : Option ℕ) → is.one ≡ o → IsThen
            go false e o f =
                inr (same_so later (less (is_call queues own far unit) fewer)
                (arrives_mine queues own far (Sent before) (At before) StillOne s is.held.links after
                (arrival.Sound m tag) fate made
                (λ packet there of. other_good packet there of
                (λ call. let yes = is_call_of unit m packet read there call in absurd cc))
                is.held.held))
            go true e None f =
                some_one (subst (λ (b : Bool). one_more queues own far b (coming_calls queues own far later) ≤ coming_calls queues own far coming) e
                fewer)
                f
                (arrives_mine queues own far (Sent before) (At before) SomeOne s (is.one, is.held.links) after
                (arrival.Sound m tag) fate made (any_good f) is.held.held)
            go true e (Some i) f =
                let fits = subst (λ (b : Bool). one_more queues own far b (coming_calls queues own far later) ≤ coming_calls queues own far coming)
                e fewer in
                let all = subst (λ (o : Option ℕ). coming_calls queues own far coming + has queues own far o ≤ passed_calls queues own far before) f
                is.calls in
                inl (omega (arith, fits, all))

      unit_so : (tag : LayersTag) (fate : Fate) (r : ReadingValue) → reading unit ≡ r → comes (node_machine queues) s tag fate r ≡ Ok after → IsThen
      unit_so tag fate (Sound m) read e = sound_so m tag fate read e
      unit_so tag fate HeaderBad read e = inr (damage_so later (less (is_call queues own far unit) fewer) tag fate HeaderBad tt e)
      unit_so tag fate DataBad read e = inr (damage_so later (less (is_call queues own far unit) fewer) tag fate DataBad tt e)
      unit_so tag fate (Malformed departure) read e =
          let same : s ≡ after = cc in
          inr (same_so later (less (is_call queues own far unit) fewer)
          (subst (λ (x : WireLayers). StillOne x.links × AreHeld (In (WasSent queues own far (Sent before))) x.station.variables.held)
          same (is.held.links, is.held.held)))

      pub hears_so : (tag : LayersTag) (fate : Fate) (bytes : List ℕ) → (bytes ≡ unit) ⊎ IsDamage (reading bytes) →
          comes (node_machine queues) s tag fate (reading bytes) ≡ Ok after → IsThen
      hears_so tag fate bytes (inl same) e = unit_so tag fate (reading bytes) (ap reading (sym same)) e
      hears_so tag fate bytes (inr damage) e = inr (damage_so later (less (is_call queues own far unit) fewer) tag fate (reading bytes) damage e)
