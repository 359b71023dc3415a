-- What a user of the per-peer header relies on. The header has no table, so every good reading fits. Assumes nothing.
use Prim.Native.Nat.{ℕ, ◌+◌, ◌≤◌, ◌<◌}
use mathlib.Core.Bool.{Bool, true, false}
use mathlib.Core.Path.{◌≡◌, refl, sym, ap, ◌∙◌, subst}
use mathlib.Core.List.{List, map, [], ◌∷◌}
use native.Mathlib.Omega.{arith}
use borrow.Author.Tests.{lt-ltb, le-ltb}
use lib.ListN.{length, take, drop}
use Rattle.wire.specs.Number as Number
use Rattle.wire.specs.Bytes.{pick, num_at, number_at, Octets, be}
use Rattle.wire.specs.Refusal.{refusal, no_refusal}
use Rattle.wire.proofs.Bytes.{num_lt, bytes_drop, number_is}
use Rattle.wire.proofs.Views.{octets_part}
use Rattle.wire.proofs.Determined.{determined}
use Rattle.wire.specs.Lacking.{FirstLacking}
use Rattle.wire.specs.Refuses.{Refuses}
use Rattle.wire.specs.Waits.{Waits, MissingTells}
use Rattle.wire.specs.Exactly.{Sound, Complete, Told, Unique}
use Rattle.layout.specs.Layout.{cut_in}
use Rattle.layout.proofs.Promises.{first_lacking}
use Rattle.per_peer_header.specs.Grammar.{widths, Reading, Skipped, address_bytes, join, grammar, parts, Good}
use Rattle.models.specs.Warnings.{count_ones}
use Rattle.models.specs.declared.IpAddr.{IpAddr}
use Rattle.per_peer_header.specs.Warnings.{stray_address, no_router_id, warnings}
use Rattle.per_peer_header.specs.Shown.{PerPeerHeaderResult, shown_address, shown_asn, shown_header, shown, refused, refusal_of}
use Rattle.per_peer_header.specs.Told.{told_header}
use Rattle.per_peer_header.specs.Read.{address_field, as_field, parts_of, read_per_peer_header, reader}
use Rattle.per_peer_header.proofs.Fields.{address-fits, as-fits, fields_layout, layout_known, length_address, length_as}
use Rattle.per_peer_header.proofs.Laws.{length_join, parts_join, join_parts, Accepted, accepted, shows_parts}
use Rattle.per_peer_header.proofs.Told as ToldProofs
use Rattle.per_peer_header.proofs.Refusals as Refusals
use Rattle.per_peer_header.proofs.Waits as Waiting

-- What the reader accepts has a good reading, which it shows.
pub sound : Sound reader
sound s p e =
    let a = accepted s e in
    let sixteen : Octets 16 (take 16 (drop 10 s)) = octets_part p 10 16 (omega (arith, a.long)) in (
      parts_of s,
      record {
        reading =
            record {
              is_good =
                  record {
                    flags_fit = num_lt 1 1 p;
                    distinguisher_fits = num_lt 8 2 p;
                    layout = fields_layout (num_at 1 s 0) (num_at 1 s 1) (take 16 (drop 10 s)) (num_at 4 s 26) a.known;
                    address-fits = address-fits (num_at 1 s 0) (num_at 1 s 1) sixteen;
                    asn_fits = as-fits (num_at 1 s 0) (num_at 1 s 1) (num_at 4 s 26) (num_lt 4 26 p);
                    id_fits = num_lt 4 30 p;
                    seconds_fit = num_lt 4 34 p;
                    microseconds_fit = num_lt 4 38 p;
                    tail_bytes = bytes_drop 42 p;
                  };
              fits = tt;
              joined = join_parts p a.long;
            };
        shown_so = shows_parts s a;
      },
    )

-- Every good reading is accepted, and shown.
pub complete : Complete reader
complete r g f short =
    let e = parts_join r g in
    let a : Accepted (join r) =
    record {
      short = short;
      long = omega (arith, length_join r g);
      known = subst (λ (q : Reading). q.kind ≤ 3) (sym e) (layout_known g.layout);
    } in
    shows_parts (join r) a ∙ ap shown e

-- Every good reading is told by the answer that shows it, with what is skipped and the tail.
pub told_back : Told reader
told_back = ToldProofs.told_back

-- What is skipped has no say in the header that is shown: it may be anything.
pub unseen : (r : Reading) → Good r → (x : Skipped) (z : List ℕ) → shown_header (told_header (shown_header r) x z) ≡ shown_header r
unseen = ToldProofs.unseen

-- A refusal shows nothing but itself, and has one of the reader's numbers; each of these is given for some input.
pub refuses : Refuses reader
refuses = Refusals.refuses

-- Who waits for as many bytes as a Cut says are missing waits neither too long nor in vain.
pub waits : Waits reader
waits = Waiting.waits

-- Bytes are missing exactly where the refusal is a Cut.
pub missing_tells : MissingTells reader
missing_tells = Waiting.missing_tells

-- No input has two readings.
pub unique : Unique grammar
unique r q g h e = sym (parts_join r g) ∙ ap parts_of e ∙ parts_join q h

-- ---- what is accepted and what is refused, for every input that is not too long
module _ (s : List ℕ) (short : length s ≤ Number.limit) where
  -- Whatever 42 bytes begin with a type of 0 to 3 are accepted, and their parts are shown.
  pub accepts : 42 ≤ length s → num_at 1 s 0 ≤ 3
      → (refusal_of (read_per_peer_header s) ≡ no_refusal) × (read_per_peer_header s ≡ shown (parts_of s))
  accepts long known = let shows = shows_parts s (record { short = short; long = long; known = known }) in (ap refusal_of shows, shows)

  -- A type above 3 is refused at its place, however much is missing behind it.
  pub refuses_type : 0 < length s → 3 < num_at 1 s 0 → read_per_peer_header s ≡ refused (refusal Number.UnknownKind 0)
  refuses_type some unknown =
      let e : number_at 1 s 0 ≡ num_at 1 s 0 = number_is 1 s 0 (omega arith) in
      rw (le-ltb Number.limit (length s) short, e, lt-ltb 3 (num_at 1 s 0) unknown)

  -- A header that is cut is refused at the first field that lacks bytes, with as many missing as it lacks.
  pub refuses_cut : length s < 42 → number_at 1 s 0 ≤ 3
      → (read_per_peer_header s ≡ refused (cut_in widths 0 (length s))) × FirstLacking widths 0 (length s) (cut_in widths 0 (length s))
  refuses_cut cut known = (
    rw (le-ltb Number.limit (length s) short, le-ltb 3 (number_at 1 s 0) known, lt-ltb (length s) 42 cut),
    first_lacking widths 0 (length s) (omega arith) (omega arith),
  )

-- The widths by which a Cut is placed are those of the parts that are joined.
pub widths_are : (r : Reading) → Good r → map length (parts r) ≡ widths
unfolding be
widths_are r g =
    λ i. 1 ∷ 1 ∷ 8 ∷ length_address r.address g.address-fits i ∷ length_as r.asn i ∷ 4 ∷ 4 ∷ 4 ∷ []

-- ---- warnings
-- The ones of the word are as many as the warnings that are given.
pub warnings_counted : (r : Reading)
    → count_ones 32 (warnings r)
    ≡ pick (stray_address r.kind (address_bytes r.address)) 1 0 + pick (no_router_id r.kind r.id r.distinguisher) 1 0
warnings_counted r = go (stray_address r.kind (address_bytes r.address)) (no_router_id r.kind r.id r.distinguisher)
  where
    go : (a b : Bool) → count_ones 32 (pick a 1 0 + pick b 2 0) ≡ pick a 1 0 + pick b 1 0
    go true true = refl
    go true false = refl
    go false true = refl
    go false false = refl

-- ---- any two answers that the contracts allow are equal
pub parse_determined : (s : List ℕ) (a b : PerPeerHeaderResult) → a ≡ read_per_peer_header s → b ≡ read_per_peer_header s → a ≡ b
parse_determined s a b = determined

module _ (kind flags : ℕ) where
  pub shown_address_determined : (octets : List ℕ) (r q : IpAddr)
      → r ≡ shown_address (address_field kind flags octets) → q ≡ shown_address (address_field kind flags octets) → r ≡ q
  shown_address_determined octets r q = determined

  pub shown_asn_determined : (number r q : ℕ) → r ≡ shown_asn (as_field kind flags number) → q ≡ shown_asn (as_field kind flags number) → r ≡ q
  shown_asn_determined number r q = determined
