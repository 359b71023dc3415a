-- What a user of the OpenBMP header relies on. It has no table, so every good reading fits. Assumes nothing.
use Prim.Native.Nat.{ℕ}
use mathlib.Core.Path.{◌≡◌, sym, ap, ◌∙◌}
use mathlib.Core.List.{List, map, [], ◌∷◌}
use native.Mathlib.Omega.{arith}
use lib.ListN.{length}
use Rattle.wire.specs.Number as Number
use Rattle.wire.specs.View.{viewed}
use Rattle.wire.proofs.Determined.{determined}
use Rattle.wire.specs.Lacking.{FirstLacking}
use Rattle.wire.specs.Refuses.{Refuses}
use Rattle.wire.specs.Waits.{Waits, MissingTells}
use Rattle.wire.specs.Exactly.{Sound, Complete, Told, Unique}
use Rattle.wire.specs.Bytes.{be}
use Rattle.layout.specs.Layout.{cut_in}
use Rattle.layout.proofs.Promises.{first_lacking}
use Rattle.openbmp.specs.Grammar.{Reading, join, Good, grammar, parts, widths}
use Rattle.openbmp.specs.Shown.{OpenBmpResult, shown_header, shown, refusal_of}
use Rattle.openbmp.specs.Read.{read_open_bmp_header, reader}
use Rattle.openbmp.proofs.Laws.{parts_in, parts_join, join_parts, parts_good, join_accepted, admin_viewed, group_viewed, length_ip}
use Rattle.openbmp.proofs.Stages.{accepted, shows_parts}
use Rattle.openbmp.proofs.Cuts.{widths_in, header_lacks}
use Rattle.openbmp.proofs.Told as ToldProofs
use Rattle.openbmp.proofs.Refusals as Refusals
use Rattle.openbmp.proofs.Waits as Waiting

-- What the reader accepts has a good reading, which it shows.
pub sound : Sound reader
sound s p e =
    let a = accepted s e in
    (parts_in s, record { reading = record { is_good = parts_good p a; fits = tt; joined = join_parts p a.long }; shown_so = shows_parts s a })

-- Every good reading is accepted, and shown.
pub complete : Complete reader
complete r g f short = shows_parts (join r) (join_accepted r g short) ∙ ap shown (parts_join r g)

-- Every good reading is told by the answer that shows it.
pub told_back : Told reader
told_back = ToldProofs.told_back

-- A refusal shows nothing but itself, and has one of the reader's numbers; each of these is given for some input.
pub refuses : Refuses reader
refuses = Refusals.refuses

-- Who waits for as many bytes as a Cut says are missing waits neither too long nor in vain.
pub waits : Waits reader
waits = Waiting.waits

-- Bytes are missing exactly where the refusal is a Cut.
pub missing_tells : MissingTells reader
missing_tells = Waiting.missing_tells

-- No input has two readings.
pub unique : Unique grammar
unique r q g h e = sym (parts_join r g) ∙ ap parts_in e ∙ parts_join q h

-- A header that is cut is refused at the first field that lacks bytes, by the widths that the lengths in it give, with as many missing as it lacks.
pub refuses_cut : (s : List ℕ) → (refusal_of (read_open_bmp_header s)).number ≡ Number.Cut
    → (refusal_of (read_open_bmp_header s) ≡ cut_in (widths_in s) 0 (length s)) × FirstLacking (widths_in s) 0 (length s) (cut_in (widths_in s) 0 (length s))
refuses_cut s e =
    let c = header_lacks s e in
    (c.0, first_lacking (widths_in s) 0 (length s) (omega arith) (omega (arith, c.1)))

-- The widths by which a Cut is placed are those of the parts that are joined.
pub widths_are : (r : Reading) → Good r → map length (parts r) ≡ widths r.admin_length r.group_length
unfolding be
widths_are r g =
    let hash = g.collector_hash_fits.many in
    let admin = g.admin_fits.many in
    let router = g.router_hash_fits.many in
    let ip = length_ip r.router_ip g.router_ip_fits in
    let group = g.group_fits.many in
    λ i. 4 ∷ 1 ∷ 1 ∷ 2 ∷ 4 ∷ 1 ∷ 1 ∷ 4 ∷ 4 ∷ hash i ∷ 2 ∷ admin i ∷ router i ∷ ip i ∷ 2 ∷ group i ∷ 4 ∷ []

-- The views of the answer that shows a reading show its admin and its group.
pub views : (r : Reading) → Good r
    → (viewed (join r) (shown_header r).admin_id ≡ r.admin) × (viewed (join r) (shown_header r).router_group ≡ r.group)
views r g = (admin_viewed r g, group_viewed r g)

-- ---- any two answers that the contracts allow are equal
pub parse_determined : (s : List ℕ) (a b : OpenBmpResult) → a ≡ read_open_bmp_header s → b ≡ read_open_bmp_header s → a ≡ b
parse_determined s a b = determined
