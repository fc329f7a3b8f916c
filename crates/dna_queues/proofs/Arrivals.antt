-- A packet that waits for a link, acted on by the node with queues: it changes the link with that address.
use Rattle.dna_queues.proofs.Prelude.{◌≡◌, ℕ, Bool, true, ◌||◌, cond, Some, Result, Ok, refl, sym, ap, ap₂, ◌∙◌, subst, inl, inr, and_parts}
use Rattle.dna_queues.proofs.Prelude.{or_right, or_cases, same_Some, NspValue, DataSegment, LinkService, DataAck, OtherDataAck, ConnectConfirm}
use Rattle.dna_queues.proofs.Prelude.{DisconnectInitiate, DisconnectConfirm, LinkRefusal, CrossedLink, Calling, Port, LinkTest, TheLink, CallingAt}
use Rattle.dna_queues.proofs.Prelude.{ActedOn, Without, passes, is_in, is_live, is_at, is_connected, has_both, LinkOf, LinksOf, LinkTruth, check}
use Rattle.dna_queues.proofs.Prelude.{with_link, changed, of_partner, is_for, is_of_pair, message_arrived, Numbers, takes_segment, takes_acks}
use Rattle.dna_queues.proofs.Prelude.{IsFound, looked, checked, late_segments, Links, dstaddr}
use Rattle.dna_queues.proofs.Acting.{LateLink, confirmed_late, ended_late, run_late, acts_as}
use Rattle.dna_queues.proofs.LinkLists.{IsUnique, IsChanged, changed_none, changed_one, at_found, none_passes}
use Rattle.dna_queues.proofs.Facts.{same_Ok}

-- ---- whose test it is

pub calling_owns : (own : ℕ) (p : Port) → passes (CallingAt own) p ≡ true → is_at p.own own ≡ true
calling_owns own p e = (and_parts (is_in Calling p.phase) (is_at p.own own) e).1

link_owns : (own far : ℕ) (p : Port) → passes (TheLink own far) p ≡ true → is_at p.own own ≡ true
link_owns own far p e = (and_parts (is_at p.own own) (is_at p.far far) (and_parts (is_live p.phase) (has_both p own far) e).1).0

pub acted_owns : (own far : ℕ) (p : Port) → passes (ActedOn own far) p ≡ true → is_at p.own own ≡ true
acted_owns own far p e = (and_parts (is_at p.own own) (is_at p.far far) (and_parts (is_connected p.phase) (has_both p own far) e).1).0

either_owns : (own far : ℕ) (p : Port) → (passes (TheLink own far) p || passes (CallingAt own) p) ≡ true → is_at p.own own ≡ true
either_owns own far p e =
    elim (or_cases (passes (TheLink own far) p) _ e) [ inl first ↦ link_owns own far p first | inr second ↦ calling_owns own p second ]

-- ---- rows of one link

module _ {D : Type 0} (s : LinksOf D) (unique : IsUnique s) (address : ℕ) where
  pub record MadeRow (does : Result (LinksOf D) LinkRefusal) (test : Port → Bool) (f : LinkOf D → LinkOf D) : Type 0 where
    pub left : LinksOf D
    pub is : does ≡ Ok left
    pub changed : IsChanged s left address (λ l. cond (test l.port) (f l) l)

  module _ (test : LinkTest) (owns : (p : Port) → passes test p ≡ true → is_at p.own address ≡ true) (refusal : LinkRefusal)
      (may : ℕ → LinkOf D → Bool) (f : LinkOf D → LinkOf D) where
    abbrev pub row : Result (LinksOf D) LinkRefusal
    row = with_link test s (Ok s) (λ n l. check (may n l) refusal (Ok (changed n (f l) s)))

    pub row_made : ((n : ℕ) (l : LinkOf D) → IsFound test s n l → may n l ≡ true) → MadeRow row (passes test) f
    row_made allowed =
        looked test s (Ok s) (λ n l. check (may n l) refusal (Ok (changed n (f l) s))) row refl
        (λ none e. record { left = s; is = sym e; changed = changed_none s unique address (passes test) f owns (none_passes test s none) })
        (λ n l found e. record {
          left = changed n (f l) s;
          is = sym e ∙ ap (λ (b : Bool). check b refusal (Ok (changed n (f l) s))) (allowed n l found);
          changed = changed_one s unique address (passes test) f owns n l found.there found.passed;
        })

    pub row_allowed : (left : LinksOf D) → row ≡ Ok left → (n : ℕ) (l : LinkOf D) → IsFound test s n l → may n l ≡ true
    row_allowed left e n l found = (checked (may n l) refusal _ left (sym (at_found test s n l _ _ found) ∙ e)).0

    pub row_left : (left : LinksOf D) → row ≡ Ok left → IsChanged s left address (λ l. cond (passes test l.port) (f l) l)
    row_left left e =
        let m = row_made (row_allowed left e) in
        subst (λ (x : LinksOf D). IsChanged s x address (λ l. cond (passes test l.port) (f l) l)) (same_Ok m.left left (sym m.is ∙ e)) m.changed

  module _ (own far : ℕ) (is : own ≡ address) (f : LinkOf D → LinkOf D) where
    abbrev pub either : Result (LinksOf D) LinkRefusal
    either = with_link (TheLink own far) s (with_link (CallingAt own) s (Ok s) (λ n l. Ok (changed n (f l) s))) (λ n l. Ok (changed n (f l) s))

    abbrev test : Port → Bool
    test p = passes (TheLink own far) p || passes (CallingAt own) p

    owned : (p : Port) → test p ≡ true → is_at p.own address ≡ true
    owned p e = subst (λ (n : ℕ). is_at p.own n ≡ true) is (either_owns own far p e)

    pub either_made : MadeRow either test f
    either_made =
        looked (TheLink own far) s (with_link (CallingAt own) s (Ok s) (λ n l. Ok (changed n (f l) s))) (λ n l. Ok (changed n (f l) s)) either refl
        (λ none e. looked (CallingAt own) s (Ok s) (λ n l. Ok (changed n (f l) s)) either e
        (λ free e. record {
          left = s;
          is = sym e;
          changed = changed_none s unique address test f owned (λ i l there.
              ap₂ (λ (b c : Bool). b || c) (none_passes (TheLink own far) s none i l there) (none_passes (CallingAt own) s free i l there));
        })
        (λ n l found e. record {
          left = changed n (f l) s;
          is = sym e;
          changed = changed_one s unique address test f owned n l found.there (or_right (passes (TheLink own far) l.port) _ found.passed);
        }))
        (λ n l found e. record {
          left = changed n (f l) s;
          is = sym e;
          changed = changed_one s unique address test f owned n l found.there
              (ap (λ (b : Bool). b || passes (CallingAt own) l.port) found.passed);
        })

    pub either_left : (left : LinksOf D) → either ≡ Ok left → IsChanged s left address (λ l. cond (test l.port) (f l) l)
    either_left left e =
        let m = either_made in
        subst (λ (x : LinksOf D). IsChanged s x address (λ l. cond (test l.port) (f l) l)) (same_Ok m.left left (sym m.is ∙ e)) m.changed

-- ---- the node with queues

module _ (s left : Links) (unique : IsUnique s) (truth : LinkTruth Numbers) where
  hidden_row : (test : LinkTest) (own address : ℕ) → own ≡ address → ((p : Port) → passes test p ≡ true → is_at p.own own ≡ true) →
      (may : ℕ → LateLink → Bool) (f : LateLink → LateLink) →
      with_link {R = Result Links LinkRefusal} test s (Ok s) (λ n l. check (may n l) CrossedLink (Ok (changed n (f l) s))) ≡ Ok left →
      IsChanged s left address (λ l. cond (passes test l.port) (f l) l)
  hidden_row test own address is owns may f e =
      row_left s unique address test (λ p e. subst (λ (n : ℕ). is_at p.own n ≡ true) is (owns p e)) CrossedLink may f left e

  pub hidden_acts : (m : NspValue) (address : ℕ) → dstaddr m ≡ Some address →
      message_arrived Without late_segments of_partner s m truth ≡ Ok left → IsChanged s left address (acts_as m truth)
  hidden_acts (ConnectConfirm dst src services info segsize user_data) address is e =
      hidden_row (CallingAt dst) dst address (same_Some dst address is) (calling_owns dst) (λ n l. is_for n truth.tag)
      (confirmed_late src segsize truth.tag.link) e
  hidden_acts (DisconnectInitiate dst src reason user_data) address is e =
      either_left s unique address dst src (same_Some dst address is) ended_late left e
  hidden_acts (DisconnectConfirm dst src reason) address is e =
      either_left s unique address dst src (same_Some dst address is) ended_late left e
  hidden_acts (DataSegment g) address is e =
      hidden_row (ActedOn g.dstaddr g.srcaddr) g.dstaddr address (same_Some g.dstaddr address is) (acted_owns g.dstaddr g.srcaddr)
      (λ n l. is_of_pair n l.partner truth.tag) (λ l. run_late (takes_segment g truth.known l.segments.segments) l) e
  hidden_acts (DataAck dst src acks) address is e =
      hidden_row (ActedOn dst src) dst address (same_Some dst address is) (acted_owns dst src) (λ n l. is_of_pair n l.partner truth.tag)
      (λ l. run_late (takes_acks acks truth.known l.segments.segments) l) e
  hidden_acts (LinkService interrupt dst src rest) address is e =
      hidden_row (ActedOn dst src) dst address (same_Some dst address is) (acted_owns dst src) (λ n l. is_of_pair n l.partner truth.tag)
      (λ l. run_late l.segments.segments l) e
  hidden_acts (OtherDataAck dst src rest) address is e =
      hidden_row (ActedOn dst src) dst address (same_Some dst address is) (acted_owns dst src) (λ n l. is_of_pair n l.partner truth.tag)
      (λ l. run_late l.segments.segments l) e
  hidden_acts m address is e = absurd cc
