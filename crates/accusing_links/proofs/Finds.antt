-- Which links a row may be of, by the test that finds them.
use Rattle.accusing_links.proofs.Prelude.{◌≡◌, ℕ, true, ◌⊎◌, inl, inr, Option, Some, None, refl, sym, subst, ◌∙◌, slice_get, and_parts, eqb-true}
use Rattle.accusing_links.proofs.Prelude.{Phase, Calling, Called, Confirming, Running, Disconnecting, Ended, Port, LinkTest, TheLink, CallingAt}
use Rattle.accusing_links.proofs.Prelude.{CalledBy, ActedOn, Queues, With, passes, is_live, is_in, is_at, is_connected, has_both, LinkOf, in_use}
use Rattle.accusing_links.proofs.Prelude.{port_of_waiting, WireSegments, WireLinks}
use Rattle.accusing_links.proofs.Answered.{IsFound}

-- a link is found by its port
abbrev pub Found : WireLinks → LinkTest → ℕ → LinkOf WireSegments → Type 0
Found s test n l = IsFound s.links (λ l. passes test l.port) n l

-- by its port, or by its port in use, which has the same addresses
pub record IsInUse (queues : Queues) (s : WireLinks) (test : LinkTest) (n : ℕ) (l : LinkOf WireSegments) : Type 0 where
  pub there : slice_get s.links n ≡ Some l
  pub port : Port
  pub own : port.own ≡ l.port.own
  pub far : port.far ≡ l.port.far
  pub opened : port.opened ≡ l.port.opened
  pub which : (port ≡ l.port) ⊎ (port ≡ in_use queues l)
  pub passes : passes test port ≡ true

pub found_used : (queues : Queues) (s : WireLinks) (test : LinkTest) (n : ℕ) (l : LinkOf WireSegments) → Found s test n l → IsInUse queues s test n l
found_used queues s test n l found =
    record { there = found.there; port = l.port; own = refl; far = refl; opened = refl; which = inl refl; passes = found.passes }

pub waits_used : (s : WireLinks) (test : LinkTest) (n : ℕ) (l : LinkOf WireSegments) → IsFound s.links (λ l. passes test (in_use With l)) n l →
    IsInUse With s test n l
waits_used s test n l found =
    record {
      there = found.there;
      port = in_use With l;
      own = own l.queue.waits;
      far = far l.queue.waits;
      opened = opened l.queue.waits;
      which = inr refl;
      passes = found.passes;
    }
  where
    own : (waits : Option Phase) → (port_of_waiting waits l.port).own ≡ l.port.own
    own None = refl
    own (Some phase) = refl

    far : (waits : Option Phase) → (port_of_waiting waits l.port).far ≡ l.port.far
    far None = refl
    far (Some phase) = refl

    opened : (waits : Option Phase) → (port_of_waiting waits l.port).opened ≡ l.port.opened
    opened None = refl
    opened (Some phase) = refl

-- by one of two tests
pub either_there : (s : WireLinks) (first second : LinkTest) (n : ℕ) (l : LinkOf WireSegments) → Found s first n l ⊎ Found s second n l →
    slice_get s.links n ≡ Some l
either_there s first second n l (inl found) = found.there
either_there s first second n l (inr found) = found.there

-- ---- ports

pub at_is : (o : Option ℕ) (number : ℕ) → is_at o number ≡ true → o ≡ Some number
at_is None number e = absurd cc
at_is (Some known) number e = let same = eqb-true known number e in subst (λ (x : ℕ). ◌≡◌ {A = Option ℕ} (Some known) (Some x)) same refl

pub in_live : (wanted phase : Phase) → is_in wanted phase ≡ true → is_live wanted ≡ true → is_live phase ≡ true
in_live Calling Calling e f = refl
in_live Called Called e f = refl
in_live Confirming Confirming e f = refl
in_live Running Running e f = refl
in_live Disconnecting Disconnecting e f = refl
in_live Ended Ended e f = absurd cc
in_live wanted phase e f = absurd cc

pub connected_live : (phase : Phase) → is_connected phase ≡ true → is_live phase ≡ true
connected_live Confirming e = refl
connected_live Running e = refl
connected_live phase e = absurd cc

-- it has both addresses
abbrev pub HasBoth : (own far : ℕ) → Port → Type 0
HasBoth own far port = (port.own ≡ Some own) × (port.far ≡ Some far)

both_at : (own far : ℕ) (port : Port) → has_both port own far ≡ true → HasBoth own far port
both_at own far port e =
    let both = and_parts (is_at port.own own) (is_at port.far far) e in (at_is port.own own both.0, at_is port.far far both.1)

-- ---- what a test tells

module _ (own far n : ℕ) (l : LinkOf WireSegments) where
  pub the_link : {queues : Queues} {s : WireLinks} → IsInUse queues s (TheLink own far) n l → HasBoth own far l.port
  the_link used =
      let both = both_at own far used.port (and_parts (is_live used.port.phase) (has_both used.port own far) used.passes).1 in
      (sym used.own ∙ both.0, sym used.far ∙ both.1)

  pub acted_on : (s : WireLinks) → Found s (ActedOn own far) n l → (is_connected l.port.phase ≡ true) × HasBoth own far l.port
  acted_on s found =
      let parts = and_parts (is_connected l.port.phase) (has_both l.port own far) found.passes in
      (parts.0, both_at own far l.port parts.1)

module _ (number n : ℕ) (l : LinkOf WireSegments) where
  pub called_by : (s : WireLinks) → Found s (CalledBy number) n l → is_in Called l.port.phase ≡ true
  called_by s found = (and_parts (is_in Called l.port.phase) (is_at l.port.far number) found.passes).0

  pub calling_at : (s : WireLinks) → Found s (CallingAt number) n l → (is_in Calling l.port.phase ≡ true) × (l.port.own ≡ Some number)
  calling_at s found =
      let parts = and_parts (is_in Calling l.port.phase) (is_at l.port.own number) found.passes in (parts.0, at_is l.port.own number parts.1)

  -- what ends a link finds a live one
  pub ends_live : (s : WireLinks) (far : ℕ) → Found s (TheLink number far) n l ⊎ Found s (CallingAt number) n l → is_live l.port.phase ≡ true
  ends_live s far (inl found) = (and_parts (is_live l.port.phase) (has_both l.port number far) found.passes).0
  ends_live s far (inr found) = in_live Calling l.port.phase (calling_at s found).0 refl
