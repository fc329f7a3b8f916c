-- The first CI or CC comes by which a link gets these addresses: from then on that link alone has them.
use Rattle.accusing_segments.proofs.Prelude.{◌≡◌, ℕ, true, ◌&&◌, eqb, Option, Some, None, List, [], ◌∷◌, length, refl, sym, ap, subst, ◌∙◌, ◌⊎◌}
use Rattle.accusing_segments.proofs.Prelude.{inl, inr, slice_get, NspValue, ConnectInitiate, ConnectConfirm, WrongNode, Phase, Calling, Called}
use Rattle.accusing_segments.proofs.Prelude.{Running, Queues, LinkTag, is_in, LinkOf, LinkTruth, Carried, goes_to, Effect, Connect, GoTo}
use Rattle.accusing_segments.proofs.Prelude.{arrival_row, WireSegments, wire_segments, WireLinks, wire_links_arrived, blank, does, after}
use Rattle.accusing_segments.proofs.Prelude.{PartnerRule, Good, good_check, each_at, in_live, calling_at, RowShows, comes_by_row, goes_live}
use Rattle.accusing_segments.proofs.Prelude.{calling_early}
use Rattle.accusing_segments.proofs.{SentPieces.Shown, SentPieces.Fits, Places.pushed_place, EachLink.IsAt, EachLink.after_stays, OneCall.IsMine}
use Rattle.accusing_segments.proofs.{OneCall.stays}
use Rattle.accusing_segments.proofs.RightLinks.{Links, IsLinkRight, AreRight}
use Rattle.accusing_segments.proofs.OneCallSteps.{IsCall, AllMine, from_none, nothing_sent}

module _ (queues : Queues) (own far : ℕ) (S : Shown) (Qs : Links) where
  abbrev Mine : Option ℕ → ℕ → LinkOf WireSegments → Type 0
  Mine one n l = IsMine queues own far S (Qs own far) one n l

  module _ (s : WireLinks) (old : AreRight Qs queues s.links) where
    abbrev to_links : List Effect → Option ℕ → LinkOf WireSegments → Unit {0} → WireLinks
    to_links es n l k = after queues wire_segments s es n l k

    right : (n : ℕ) (l : LinkOf WireSegments) → slice_get s.links n ≡ Some l → IsLinkRight Qs l
    right n l at = each_at (IsLinkRight Qs) s.links n l old at

    -- ---- the first call comes

    module _ (are : AllMine queues own far S Qs None s.links) (none : (n : ℕ) (p : _) → S n p → ⊥) where
      abbrev Left : WireLinks → Type 0
      Left x = (one : Option ℕ) × AllMine queues own far S Qs one x.links

      each_of : (i : ℕ) (es : List Effect) (n : Option ℕ) (l : LinkOf WireSegments) (k : Unit {0}) → IsAt queues (Mine (Some i)) n l →
          AllMine queues own far S Qs (Some i) (to_links es n l k).links
      each_of i = after_stays queues (Mine (Some i)) (stays queues own far S (Qs own far) (Some i)) s (from_none queues own far S Qs i s.links are)

      module _ (truth : LinkTruth (Unit {0})) where
        -- a link that begins has the next number
        begun : (src segsize : ℕ) → AllMine queues own far S Qs (Some (length s.links)) (to_links (Connect src segsize ∷ []) None
            (does queues wire_segments truth (blank queues wire_segments) (Connect src segsize)) tt).links
        begun src segsize n l at = go (pushed_place s.links _ n l at)
          where
            new : LinkOf WireSegments
            new = does queues wire_segments truth (blank queues wire_segments) (Connect src segsize)

            go : (slice_get s.links n ≡ Some l) ⊎ ((n ≡ length s.links) × (new ≡ l)) → Mine (Some (length s.links)) n l
            go (inl there) = from_none queues own far S Qs (length s.links) s.links are n l there
            go (inr (last, this)) = subst (Mine (Some (length s.links)) n) this
                (record { called = λ f c. (ap (λ (x : ℕ). Some x) last, none); able = λ f o. absurd cc })

        confirmed : (dst src segsize n : ℕ) (l : LinkOf WireSegments) → is_in Calling l.port.phase ≡ true → slice_get s.links n ≡ Some l →
            Mine (Some n) n (goes_to wire_segments queues Running
            (record l { port = record l.port { far = Some src }; partner = truth.tag.link; segsize = segsize }))
        confirmed dst src segsize n l calling at =
            let x : LinkOf WireSegments = record l { port = record l.port { far = Some src }; partner = truth.tag.link; segsize = segsize } in
            let went = goes_live queues Running x (in_live Calling l.port.phase calling refl) in
            record {
              called = λ f c. let now : is_in Called Running ≡ true = sym (ap (λ (p : Phase). is_in Called p) went.0) ∙ c in absurd cc;
              able = λ f o. (
                refl,
                inr (subst (Fits S (Qs own far).word) (sym went.1)
                    (nothing_sent queues own far S Qs s old l (right n l at) (calling_early l.port.phase calling) none)),
              );
            }

        call_shows : (m : NspValue) → IsCall own far m → RowShows queues truth s (λ es n l. Left (to_links es n l tt)) (arrival_row m)
        call_shows (ConnectInitiate retransmitted src services info segsize user_data) call =
            ((None, are), (Some (length s.links), begun src segsize))
        call_shows (ConnectConfirm dst src services info segsize user_data) call = (
          (None, are),
          λ n l found. (
            Some n,
            each_of n (Connect src segsize ∷ GoTo Running ∷ []) (Some n) _ tt
                (confirmed dst src segsize n l (calling_at dst n l s found).0 found.there),
          ),
        )
        call_shows m call = absurd call

      pub call_arrived : (rule : PartnerRule) (packet : Carried) (tag : LinkTag) → IsCall own far packet.message →
          Good Left (wire_links_arrived queues rule s packet tag)
      call_arrived rule packet tag call =
          good_check Left (eqb packet.src s.peer && eqb packet.dst s.node) WrongNode _ (λ e.
          comes_by_row queues (record { tag = tag; known = tt }) s (λ es n l. Left (to_links es n l tt)) rule to_links Left (λ es n l k left. left)
          packet.message (call_shows (record { tag = tag; known = tt }) packet.message call))
