-- Two results of one call are equal; and demand 2 on cells: from message to word by either rule, and from word back to the same message.
-- Assumes nothing.
use mathlib.Core.Path.{◌≡◌, ◌∙◌}
use mathlib.Core.List.{List, [], ◌∷◌}
use Prim.Native.Nat.{ℕ}
use lib.ListN.{length}
use Rattle.poly.specs.Cells.{Cells, poly}
use Rattle.poly.proofs.Cells.{poly_injective, poly_lt}
use Rattle.cells.specs.Lent.{cells_check}
use Rattle.verdict.specs.Verdict.{Passed}
use Rattle.verdict.proofs.Verdict.{settles_done, passed_on}
use Rattle.codes.specs.Code.{MessageLength, CodeWord, code_checks}
use Rattle.codes.specs.Mending.{Pattern, carry_checks, rule_checks}
use Rattle.codes.specs.Coding.{Systematic, Product, First, Decoded}
use Rattle.codes.specs.Calls.{readable_check, slices_check, EncodesCells, LeavesCells, DecodesCells, Written}
use Rattle.codes.specs.Demand.{ReturnsCells}
use Rattle.codes.proofs.Checking.{Allowed, of_allowed}
use Rattle.codes.proofs.Coding.{Single, first_single, product_single, mends_self, decoded_self}
use Rattle.codes.proofs.Settled.{systematic_sole, product_sole, encodes_cells_settled, leaves_cells_settled, decodes_cells_settled, Meets, systematic_meets, product_meets, carried_allowed}

module _ {n g number number' : ℕ} where
  module _ (message word : List ℕ) {word' word'' : List ℕ} where
    pub encode_systematic_settled : EncodesCells Systematic n g message word word' number → EncodesCells Systematic n g message word word'' number'
        → (number ≡ number') × (word' ≡ word'')
    encode_systematic_settled = encodes_cells_settled Systematic systematic_sole message word

    pub encode_product_settled : EncodesCells Product n g message word word' number → EncodesCells Product n g message word word'' number'
        → (number ≡ number') × (word' ≡ word'')
    encode_product_settled = encodes_cells_settled Product product_sole message word

  pub remainder_settled : {s s' : ℕ} (word : List ℕ) → LeavesCells n g word number s → LeavesCells n g word number' s' → (number ≡ number') × (s ≡ s')
  remainder_settled = leaves_cells_settled

  module _ {rule k k' : ℕ} (word message : List ℕ) {message' message'' : List ℕ} where
    pub decode_systematic_settled : DecodesCells First n g rule word message message' number k → DecodesCells First n g rule word message message'' number' k'
        → (number ≡ number') × (message' ≡ message'') × (k ≡ k')
    decode_systematic_settled = decodes_cells_settled First first_single word message

    pub decode_product_settled : DecodesCells Product n g rule word message message' number k → DecodesCells Product n g rule word message message'' number' k'
        → (number ≡ number') × (message' ≡ message'') × (k ≡ k')
    decode_product_settled = decodes_cells_settled Product product_single word message

-- ---- demand 2: the round trip, for every code that passes the checks 1 to 3

module _ (Word Says : ℕ → ℕ → ℕ → Type 0) (says : Single Says) (meets : Meets Word Says) {n g : ℕ} (p : Passed (code_checks n g)) (message : List ℕ)
    (k : MessageLength n g (length message)) (fine : Cells message) where
  -- the encoder was done
  encoded : (word : List ℕ) {word' : List ℕ} {number : ℕ} → length word ≡ n → EncodesCells Word n g message word word' number
      → (number ≡ 0) × ((c : ℕ) × Word g (poly message) c × Written n word' c)
  encoded word long x =
      settles_done x (passed_on (code_checks n g) (slices_check n g message word ∷ cells_check message ∷ []) p ((k, long), (fine, tt)))

  -- the decoder of its word gives the message, with nothing mended
  module _ {rule : ℕ} (q : Passed (carry_checks n g rule)) (word' lent : List ℕ) {c : ℕ} (x : Word g (poly message) c) (w : Written n word' c)
      (same : length lent ≡ length message) where
    a : Allowed n g rule
    a = carried_allowed p q

    met : CodeWord n g c × Says g (poly message) c
    met = meets n g (poly message) c (record { k = length message; long = k; below = poly_lt message fine }) x

    decoded : {d count : ℕ} → Decoded (Pattern n rule) (Says g) n g (poly word') d count → (d ≡ poly message) × (count ≡ 0)
    decoded y = decoded_self a Says says met.0 met.1 (rw w.stands at y)

    back : {lent' : List ℕ} {number mended : ℕ} → DecodesCells Says n g rule word' lent lent' number mended → (number ≡ 0) × (lent' ≡ message) × (mended ≡ 0)
    back {lent'} y =
        let last = slices_check n g lent word' ∷ cells_check word' ∷ readable_check n g rule (poly word') ∷ [] in
        let t = settles_done y (passed_on (rule_checks n g rule) last (of_allowed a)
        ((rw same k, w.long), (w.cells, ((c, rw w.stands (mends_self a met.0)), tt)))) in
        let z = t.1.2 in
        let s = decoded t.1.1 in
        (t.0, poly_injective lent' message (z.long ∙ same) z.cells fine (z.stands ∙ s.0), s.1)

  returns : ReturnsCells Word Says n g message
  returns = record {
    encoded = λ word word' number long x. (encoded word long x).0;
    decoded = λ rule number number' mended word word' lent lent' q long same x y.
        let e = (encoded word long x).1 in back q word' lent e.1 e.2 same y;
  }

module _ {n g : ℕ} (p : Passed (code_checks n g)) (message : List ℕ) (k : MessageLength n g (length message)) (fine : Cells message) where
  pub systematic_returns : ReturnsCells Systematic First n g message
  systematic_returns = returns Systematic First first_single systematic_meets p message k fine

  pub product_returns : ReturnsCells Product Product n g message
  product_returns = returns Product Product product_single product_meets p message k fine
