-- What gates put, and where heads want to go, one place further.
use Rattle.std.proofs.Common.{◌≡◌, ℕ, ◌<◌, List, [], length, get_or, refl, sym, subst}
use Rattle.std.proofs.lemmas.List.{get_or_default, get_or_read}
use Rattle.tl_params.specs.declared.ports.Slave.{Slave}
use Rattle.net_build.specs.declared.types.Wire.{Wire}
use Rattle.net_build.specs.Built.{Built, IsBit}
use Rattle.net_build.specs.Columns.{no_wire}
use Rattle.net_build.specs.Values.{Adds}
use Rattle.net_build.proofs.Steps.{bit_adds, wire_adds}
use Rattle.net_gate.specs.declared.types.Serving.{Serving}
use Rattle.net_paths.specs.declared.ids.IdBlock.{IdBlock}
use Rattle.net_queue.specs.declared.types.Put.{Put}
use Rattle.net_queue.specs.Rows.{AreAlike, KeepsRow, row_widths}
use Rattle.net_queue.proofs.Alike.{alike_adds}
use Rattle.net_crossbar.specs.Heads.{MovesRowBack}
use Rattle.net_crossbar.specs.Places.{AllAt}
use Rattle.net_crossbar.specs.Puts.{AskOwner, AskRange, IsServedRow, PutsReturned, PutsServed}
use Rattle.net_crossbar.specs.Wants.{HaveField}
use Rattle.net_crossbar.proofs.Asked.{owner_adds, range_adds}
use Rattle.net_crossbar.proofs.Lists.{all_lifted, read_here}
use Rattle.net_crossbar.proofs.Moves.{row_adds}

keeps_adds : (old new : Built) (from : List Wire) (widths : List ℕ) (to : List Wire) → Adds old new → KeepsRow old from widths to → KeepsRow new from widths to
keeps_adds old new from widths to g h = record { at = λ v s f. h.at v (g.later.back v s) f }

returns_adds : (old new : Built) (place : ℕ) (block : IdBlock) (row out : List Wire) → Adds old new → MovesRowBack old place block row out → MovesRowBack new place block row out
returns_adds old new place block row out g h = record { at = λ range v i s l. h.at range v i (g.later.back v s) l }

pub served_row_adds : (old new : Built) (count : ℕ) (s : Serving) → Adds old new → IsServedRow old count s → IsServedRow new count s
served_row_adds old new count s g h = record { valid = bit_adds old new s.valid g h.valid; row = row_adds old new count s.items g h.row }

pub served_row_here : (old new : Built) (count : ℕ) (ss : List Serving) (place : ℕ) (s : Serving) → place < length ss → s ≡ get_or ss place s → Adds old new → AllAt (λ k (s : Serving). IsServedRow old count s) ss → IsServedRow new count s
served_row_here old new count ss place s l e g h = subst (IsServedRow new count) (sym e) (served_row_adds old new count (get_or ss place s) g (h.at place s l))

pub put_adds : (old new : Built) (like : List Wire) (s : Serving) (put : Put) → Adds old new → PutsServed old like s put → PutsServed new like s put
put_adds old new like s put g h = record {
  valid = h.valid;
  bit = bit_adds old new put.valid g h.bit;
  alike = alike_adds old new like put.items g h.alike;
  keeps = keeps_adds old new s.items (row_widths like) put.items g h.keeps;
}

pub returned_adds : (old new : Built) (block : IdBlock) (like : List Wire) (s : Serving) (put : Put) → Adds old new → PutsReturned old block like s put → PutsReturned new block like s put
returned_adds old new block like s put g h = record {
  valid = h.valid;
  bit = bit_adds old new put.valid g h.bit;
  alike = alike_adds old new like put.items g h.alike;
  moved = h.moved;
  returns = returns_adds old new 2 block s.items h.moved g h.returns;
  keeps = keeps_adds old new h.moved (row_widths like) put.items g h.keeps;
}

pub put_made : (b : Built) (like rs : List Wire) (s : Serving) (items : List Wire) → rs ≡ s.items → IsBit b s.valid → AreAlike b like items → KeepsRow b rs (row_widths like) items → PutsServed b like s (record { valid = s.valid; items = items })
put_made b like rs s items e v a k = record { valid = refl; bit = v; alike = a; keeps = subst (λ (ws : List Wire). KeepsRow b ws (row_widths like) items) e k }

pub returned_made : (old new : Built) (block : IdBlock) (like rs moved : List Wire) (s : Serving) (items : List Wire) → rs ≡ moved → Adds old new → IsBit new s.valid → MovesRowBack old 2 block s.items moved → AreAlike new like items → KeepsRow new rs (row_widths like) items
    → PutsReturned new block like s (record { valid = s.valid; items = items })
returned_made old new block like rs moved s items e g v m a k = record {
  valid = refl;
  bit = v;
  alike = a;
  moved = moved;
  returns = returns_adds old new 2 block s.items moved g m;
  keeps = subst (λ (ws : List Wire). KeepsRow new ws (row_widths like) items) e k;
}

-- at a place
pub put_here : (b : Built) (likes : List (List Wire)) (ss : List Serving) (k : ℕ) (like x : List Wire) (s : Serving) (put : Put) → k < length likes → k < length ss → like ≡ x → x ≡ get_or likes k x → s ≡ get_or ss k s
    → PutsServed b like s put → (d : Serving) → PutsServed b (get_or likes k []) (get_or ss k d) put
put_here b likes ss k like x s put l m e f g h d =
    subst (λ (y : Serving). PutsServed b (get_or likes k []) y put) (get_or_read ss k s m g d)
    (subst (λ (ws : List Wire). PutsServed b ws s put) (read_here likes k like x [] l e f) h)

pub returned_here : (b : Built) (likes : List (List Wire)) (ss : List Serving) (blocks : List IdBlock) (k : ℕ) (like x : List Wire) (s : Serving) (c : IdBlock) (put : Put) → k < length likes → k < length ss → k < length blocks → like ≡ x → x ≡ get_or likes k x → s ≡ get_or ss k s
    → PutsReturned b (get_or blocks k c) like s put → (block : IdBlock) (d : Serving) → PutsReturned b (get_or blocks k block) (get_or likes k []) (get_or ss k d) put
returned_here b likes ss blocks k like x s c put l m n e f g h block d =
    subst (λ (y : IdBlock). PutsReturned b y (get_or likes k []) (get_or ss k d) put) (get_or_default blocks k c block n)
    (subst (λ (y : Serving). PutsReturned b (get_or blocks k c) (get_or likes k []) y put) (get_or_read ss k s m g d)
    (subst (λ (ws : List Wire). PutsReturned b (get_or blocks k c) ws s put) (read_here likes k like x [] l e f) h))

-- ---- wants

pub fields_adds : (old new : Built) (n : ℕ) (rows : List (List Wire)) → Adds old new → HaveField old n rows → HaveField new n rows
fields_adds old new n rows g h = all_lifted _ _ rows (λ k row i. record { long = i.long; wire = wire_adds old new (get_or row n no_wire) g i.wire }) h

pub ask_owner_adds : (old new : Built) (valids : List Wire) (rows : List (List Wire)) (slaves : List Slave) (wants : List Wire) → Adds old new → AskOwner old valids rows slaves wants → AskOwner new valids rows slaves wants
ask_owner_adds old new valids rows slaves wants g h = record {
  long = h.long;
  asks = all_lifted _ _ wants (λ k w i. owner_adds old new slaves (get_or valids k no_wire) (get_or (get_or rows k []) 4 no_wire) w g i) h.asks;
}

pub ask_range_adds : (old new : Built) (valids : List Wire) (rows : List (List Wire)) (block : IdBlock) (wants : List Wire) → Adds old new → AskRange old valids rows block wants → AskRange new valids rows block wants
ask_range_adds old new valids rows block wants g h = record {
  long = h.long;
  asks = all_lifted _ _ wants (λ k w i. range_adds old new block (get_or valids k no_wire) (get_or (get_or rows k []) 2 no_wire) w g i) h.asks;
}
