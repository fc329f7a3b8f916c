-- Each row names, for its record, only what is judged where the record is, and only what is left out where the record is.
use Rattle.dna_leaving.proofs.Prelude.{◌≡◌, ℕ, Bool, true, false, not, ◌&&◌, cond, ◌==◌, refl, sym, ap, ◌∙◌, inl, inr, eqb-true, subst, zero, suc}
use Rattle.dna_leaving.proofs.Prelude.{◌≤◌, arith, and_parts, eqb-false, NspValue, DataSegment, LinkService, DataAck, OtherDataAck, ConnectAck}
use Rattle.dna_leaving.proofs.Prelude.{NoOperation, ConnectInitiate, ConnectConfirm, DisconnectInitiate, DisconnectConfirm, Queues, SegmentBook}
use Rattle.dna_leaving.proofs.Prelude.{LinkTruth, LinkEventValue, Open, Accept, Reject, In, Up, Close, Abort, Boot, user_row, sending_row}
use Rattle.dna_leaving.proofs.Prelude.{arrival_row, of_none, LeftOut, source_of, destination_of, event_out, sent_out, kept_out, is_judged_there}
use Rattle.dna_leaving.proofs.Prelude.{message_out, Judged, EventBinds, MessageBinds, NamesJudged}
use Rattle.dna_links.specs.User as user
use Rattle.dna_leaving.proofs.LookUps.{NamesOwn, NamesFar}
use Rattle.dna_leaving.proofs.Asked.{RowFits}

-- ---- which address a message is about

not_zero : (n : ℕ) → (n ≡ 0 → ⊥) → 1 ≤ n
not_zero zero some = absurd (some refl)
not_zero (suc n) some = omega arith

module _ (out : LeftOut) (b : Bool) (src dst : ℕ) where
  -- SRCADDR of what is sent is as the record, or 0, and then DSTADDR is
  sent_own : sent_out out src dst ≡ not b → NamesOwn out b src
  sent_own e = go (src == 0) refl e
    where
      go : (z : Bool) → (src == 0) ≡ z → cond z (cond (dst == 0) (out.own 0) (out.far dst)) (out.own src) ≡ not b → NamesOwn out b src
      go true zero_is e = inl (eqb-true src 0 zero_is)
      go false zero_is e = inr e

  sent_far : (src == 0) ≡ true → sent_out out src dst ≡ not b → NamesFar out b dst
  sent_far zero_is e = go (dst == 0) refl (sym (ap (λ (z : Bool). cond z (cond (dst == 0) (out.own 0) (out.far dst)) (out.own src)) zero_is) ∙ e)
    where
      go : (z : Bool) → (dst == 0) ≡ z → cond z (out.own 0) (out.far dst) ≡ not b → NamesFar out b dst
      go true none e = inr (eqb-true dst 0 none, e)
      go false none e = inl e

  -- and DSTADDR of what is kept
  kept_own : kept_out out src dst ≡ not b → NamesOwn out b dst
  kept_own e = go (dst == 0) refl e
    where
      go : (z : Bool) → (dst == 0) ≡ z → cond z (out.far src) (out.own dst) ≡ not b → NamesOwn out b dst
      go true none e = inl (eqb-true dst 0 none)
      go false none e = inr e

  kept_far : (1 ≤ dst → out.own dst ≡ out.far src) → kept_out out src dst ≡ not b → out.far src ≡ not b
  kept_far bound e = go (dst == 0) refl e
    where
      go : (z : Bool) → (dst == 0) ≡ z → cond z (out.far src) (out.own dst) ≡ not b → out.far src ≡ not b
      go true none e = e
      go false some e = sym (bound (not_zero dst (eqb-false dst 0 some))) ∙ e

and_true : (a b : Bool) → (a && true) ≡ b → a ≡ b
and_true true b e = e
and_true false b e = e

-- ---- rows

module _ {D K : Type 0} (queues : Queues) (book : SegmentBook D K) (out : LeftOut) (judged : Judged) (b : Bool) where
  abbrev nothing : LinkTruth K
  nothing = of_none queues book

  pub event_fits : (event : LinkEventValue) → event_out out event ≡ not b → user.IsInRange event → EventBinds out event →
      RowFits out judged b nothing (user_row event)
  event_fits (Open own) e range binds = ((inr e, tt), ((range, e), (tt, tt)))
  event_fits (Accept far own) e range binds = ((inl (sym binds ∙ e), (inr e, tt)), ((range.1, e), (tt, tt)))
  event_fits (Reject far own) e range binds = ((inl (sym binds ∙ e), (inr e, tt)), ((range.1, e), (tt, tt)))
  event_fits (In own message) e range binds = ((inr e, (tt, tt)), (tt, tt))
  event_fits (Up own message) e range binds = ((inr e, (tt, tt)), (tt, tt))
  event_fits (Close own) e range binds = ((inr e, (tt, tt)), (tt, tt))
  event_fits (Abort own) e range binds = ((inr e, (tt, tt)), (tt, tt))
  event_fits Boot e range binds = (tt, (boots b e, tt))
    where
      boots : (c : Bool) → false ≡ not c → c ≡ true
      boots true e = refl
      boots false e = absurd cc

  -- a DC is about its SRCADDR; or it is judged at the other end, and then the link that it may not name would be
  confirm_fits : (dst src reason : ℕ) → message_out out (DisconnectConfirm dst src reason) ≡ not b →
      RowFits out judged b nothing (sending_row (DisconnectConfirm dst src reason))
  confirm_fits dst src reason e = by_out (sent_out out src dst) (is_judged_there out (DisconnectConfirm dst src reason)) refl refl e
    where
      of_own : sent_out out src dst ≡ not b → RowFits out judged b nothing (sending_row (DisconnectConfirm dst src reason))
      of_own e = (
        (
          inl (sent_own out b src dst e),
          ((λ is. named is (sent_own out b src dst e), tt), λ none. (sent_far out b src dst none e, tt)),
        ),
        (tt, tt),
      )
        where
          named : b ≡ false → NamesOwn out b src → NamesOwn out false src
          named is names = subst (λ (c : Bool). NamesOwn out c src) is names

      by_out : (o there : Bool) → sent_out out src dst ≡ o → is_judged_there out (DisconnectConfirm dst src reason) ≡ there →
          (o && not there) ≡ not b →
          RowFits out judged b nothing (sending_row (DisconnectConfirm dst src reason))
      by_out true false is_o is_there e = of_own (is_o ∙ e)
      by_out false there is_o is_there e = of_own (is_o ∙ e)
      by_out true true is_o is_there e =
          let named = and_parts (not (src == 0)) _ is_there in
          let far = and_parts (not (dst == 0)) (not (out.far dst)) named.1 in (
            (
              inr (inl (far_is b (out.far dst) e far.1)),
              ((λ is. never b e is, tt), λ none. (both (src == 0) none named.0, tt)),
            ),
            (tt, tt),
          )
        where
          far_is : (c f : Bool) → false ≡ not c → not f ≡ true → f ≡ not c
          far_is true false e g = refl
          far_is true true e g = absurd cc
          far_is false f e g = absurd cc

          never : (c : Bool) → false ≡ not c → c ≡ false → NamesOwn out false src
          never true e is = absurd cc
          never false e is = absurd cc

          both : (z : Bool) → z ≡ true → not z ≡ true → NamesFar out b dst
          both true none some = absurd cc
          both false none some = absurd cc

  pub sending_fits : (m : NspValue) → message_out out m ≡ not b → RowFits out judged b nothing (sending_row m)
  sending_fits (ConnectInitiate retransmitted src services info segsize user_data) e =
      ((sent_own out b src 0 (and_true _ (not b) e), (tt, tt)), tt)
  sending_fits (ConnectAck dst) e = ((sent_far out b 0 dst refl (and_true _ (not b) e), tt), tt)
  sending_fits (ConnectConfirm dst src services info segsize user_data) e =
      ((inl (sent_own out b src dst (and_true _ (not b) e)), (tt, tt)), tt)
  sending_fits (DisconnectInitiate dst src reason user_data) e = ((inl (sent_own out b src dst (and_true _ (not b) e)), (tt, tt)), (tt, tt))
  sending_fits (DisconnectConfirm dst src reason) e = confirm_fits dst src reason e
  sending_fits (DataSegment segment) e =
      ((inl (sent_own out b segment.srcaddr segment.dstaddr (and_true _ (not b) e)), (tt, (tt, tt))), (tt, (tt, tt)))
  sending_fits (DataAck dst src acks) e = ((inl (sent_own out b src dst (and_true _ (not b) e)), (tt, (tt, tt))), (tt, (tt, tt)))
  sending_fits (LinkService interrupt dst src rest) e = ((inl (sent_own out b src dst (and_true _ (not b) e)), (tt, tt)), (tt, tt))
  sending_fits (OtherDataAck dst src rest) e = ((inl (sent_own out b src dst (and_true _ (not b) e)), (tt, tt)), (tt, tt))
  sending_fits (NoOperation rest) e = (tt, tt)

  module _ (truth : LinkTruth K) (of_judged : b ≡ true → NamesJudged judged truth.tag) where
    pub arrival_fits : (m : NspValue) → kept_out out (source_of m) (destination_of m) ≡ not b → MessageBinds out m →
        RowFits out judged b truth (arrival_row m)
    arrival_fits (ConnectInitiate retransmitted src services info segsize user_data) e binds =
        ((inl e, tt), (((binds, e), λ is. (of_judged is).link), tt))
    arrival_fits (ConnectConfirm dst src services info segsize user_data) e binds = (
      (kept_own out b src dst e, (of_judged, tt)),
      (((binds.0, kept_far out b src dst binds.1 e), λ is. (of_judged is).link), (tt, tt)),
    )
    arrival_fits (DisconnectInitiate dst src reason user_data) e binds =
        (((inl (kept_own out b src dst e), kept_own out b src dst e), tt), (tt, tt))
    arrival_fits (DisconnectConfirm dst src reason) e binds = (((inl (kept_own out b src dst e), kept_own out b src dst e), tt), (tt, tt))
    arrival_fits (DataSegment segment) e binds =
        ((inl (kept_own out b segment.srcaddr segment.dstaddr e), (of_judged, tt)), (tt, (tt, tt)))
    arrival_fits (DataAck dst src acks) e binds = ((inl (kept_own out b src dst e), (of_judged, tt)), (tt, (tt, tt)))
    arrival_fits (LinkService interrupt dst src rest) e binds = ((inl (kept_own out b src dst e), (of_judged, tt)), (tt, tt))
    arrival_fits (OtherDataAck dst src rest) e binds = ((inl (kept_own out b src dst e), (of_judged, tt)), (tt, tt))
    arrival_fits m e binds = (tt, tt)
