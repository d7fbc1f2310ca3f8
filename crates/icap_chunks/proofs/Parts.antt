-- A text ends in a part of the grammar where the reader stands at a place, and the two have the same faults.
use Rattle.std.proofs.Common.{◌≡◌, ℕ, suc, ◌+◌, ◌-◌, ◌<◌, Bool, false, List, [], ◌∷◌, ◌++◌, length, Option, Some, None, refl, sym, ap, ◌∙◌}
use Rattle.std.proofs.Common.{subst, arith, length-append, inl, inr}
use Rattle.std.proofs.lemmas.List.{append-nil}
use Rattle.std.specs.Str.Parse.{digits_value}
use Rattle.icap_chunks.specs.declared.extension.Item.{Item}
use Rattle.icap_chunks.specs.declared.extension.Item.TheVariants.{Blank}
use Rattle.icap_chunks.specs.declared.positions.Position.{Position}
use Rattle.icap_chunks.specs.declared.positions.Position.TheVariants.{Digits, Pad, Extension, LineCr, Data, DataEnd, DataCr, TrailerStart}
use Rattle.icap_chunks.specs.declared.positions.Position.TheVariants.{Trailer, TrailerCr, LastCr, Ended, Faulted}
use Rattle.icap_chunks.specs.Grammar.{is_line_byte, AllPass, print_line, has_ieof}
use Rattle.icap_chunks.specs.Machine.{fault_of, step, end_at, faulted_at}
use Rattle.icap_chunks.specs.Faults.{Part, in_line, behind_line, in_data, behind_data, behind_data_cr, in_trailers, behind_trailers_cr}
use Rattle.icap_chunks.specs.Faults.{fault_at, Behind, InLine, InChunk, InTrailers, EndsIn}
use Rattle.icap_chunks.proofs.Standing.{Front, InDigits, InPad, InExtension, LeavesAt, extension_behind}
use Rattle.icap_chunks.proofs.Standing.{InChunk as ChunkStands, InTrailers as TrailersStand}
use Rattle.icap_chunks.proofs.Table.{digits_table, pad_table, extension_table, line_end_table, data_table, data_end_table, data_cr_table}
use Rattle.icap_chunks.proofs.Table.{trailer_start_table, trailer_table, trailer_cr_table, last_cr_table}
use Rattle.icap_chunks.proofs.Walks.{at}

-- the place and the part have the same faults
abbrev pub SameFaults : List ℕ → ℕ → Position → Part → Type 0
SameFaults body sum place part = (b : ℕ) → fault_of (step (at sum place) b) ≡ fault_at (length body) part b

pub record InPart (text body : List ℕ) (sum : ℕ) (place : Position) : Type 0 where
  pub part : Part
  pub ends : EndsIn text body part
  pub same : SameFaults body sum place part

pub record AtPlace (text body : List ℕ) (part : Part) : Type 0 where
  pub sum : ℕ
  pub place : Position
  pub stands : LeavesAt text body sum place
  pub quiet : end_at place ≡ None
  pub sound : faulted_at place ≡ None
  pub same : SameFaults body sum place part

-- where a part stands after whole chunks, a tail that equals it comes after the same chunks
behind_of : {text body part tail : List ℕ} {sum : ℕ} → Front text body part sum → part ≡ tail → Behind text body tail
behind_of f e = record { front = f.front; chunks = f.chunks; text_is = f.text_is ∙ ap (λ t. f.front ++ t) e }

-- where a tail comes after whole chunks, a part that equals it stands there, with the body's length as the sum
front_of : {text body tail part : List ℕ} → Behind text body tail → tail ≡ part → Front text body part (length body)
front_of f e = record { front = f.front; chunks = f.chunks; text_is = f.text_is ∙ ap (λ t. f.front ++ t) e; sum_is = refl }

-- a fact of the sum of the chunks
summed : (body : List ℕ) (sum : ℕ) (place : Position) (part : Part) → sum ≡ length body → SameFaults body (length body) place part
    → SameFaults body sum place part
summed body sum place part is same b = ap (λ n. fault_of (step (at n place) b)) is ∙ same b

-- ---- from a place

-- a text that stands in the digits of a size line ends in a part with the same faults
digits_part : (text body : List ℕ) (sum count size : ℕ) → InDigits text body sum count size → InPart text body sum (Digits count size)
digits_part text body sum count size s =
    let nil : s.digits ≡ s.digits ++ ([] ++ []) = sym (append-nil s.digits) in
    let count_is : count ≡ length (s.digits ++ ([] ++ [])) = s.count_is ∙ ap length nil in
    record {
      part = in_line s.digits [] None;
      ends = record {
        behind = behind_of s.front nil;
        all = s.all;
        blanks = tt;
        bytes = tt;
        begun = inr (refl, refl);
        short = omega (arith, count_is, s.short);
        fits = omega (arith, s.size_is, s.fits);
      };
      same = summed body sum (Digits count size) (in_line s.digits [] None) s.front.sum_is
          (λ b. digits_table (length body) count size b s.digits count_is (sym s.size_is));
    }

-- blanks after digits
pad_same : (body : List ℕ) (sum count size : ℕ) (digits pad : List ℕ) → 0 < length digits → 0 < length pad
    → count ≡ length (digits ++ (pad ++ []))
    → SameFaults body sum (Pad count size) (in_line digits pad None)
pad_same body sum count size [] pad some more count_is b = absurd (omega (arith, some))
pad_same body sum count size (d ∷ digits) [] some more count_is b = absurd (omega (arith, more))
pad_same body sum count size (d ∷ digits) (p ∷ pad) some more count_is b = pad_table_at (length body)
  where
    pad_table_at : (base : ℕ) → fault_of (step (at sum (Pad count size)) b) ≡ fault_at base (in_line (d ∷ digits) (p ∷ pad) None) b
    pad_table_at base = pad_table sum count size b d p digits pad count_is

-- a text that stands in the blanks of a size line ends in a part with the same faults
pad_part : (text body : List ℕ) (sum count size : ℕ) → InPad text body sum count size → InPart text body sum (Pad count size)
pad_part text body sum count size s =
    let nil : s.digits ++ s.pad ≡ s.digits ++ (s.pad ++ []) = ap (λ p. s.digits ++ p) (sym (append-nil s.pad)) in
    let count_is : count ≡ length (s.digits ++ (s.pad ++ [])) = omega (arith, s.count_is, length-append s.digits s.pad, ap length nil) in
    record {
      part = in_line s.digits s.pad None;
      ends = record {
        behind = behind_of s.front nil;
        all = s.writes.digits.1;
        blanks = s.blanks;
        bytes = tt;
        begun = inl s.writes.digits.0;
        short = omega (arith, count_is, s.short);
        fits = omega (arith, s.writes.value, s.fits);
      };
      same = pad_same body sum count size s.digits s.pad s.writes.digits.0 s.some count_is;
    }

-- an extension after one or more digits has the same faults for the reader as in the grammar
extension_same : (body : List ℕ) (sum count size : ℕ) (digits pad extension : List ℕ) (item : Item) (found : Bool) → 0 < length digits
    → count ≡ length (digits ++ (pad ++ 59 ∷ extension))
    → SameFaults body sum (Extension count size item found) (in_line digits pad (Some extension))
extension_same body sum count size [] pad extension item found some count_is b = absurd (omega (arith, some))
extension_same body sum count size (d ∷ digits) pad extension item found some count_is b = extension_table_at pad count_is
  where
    extension_table_at : (pad : List ℕ) → count ≡ length ((d ∷ digits) ++ (pad ++ 59 ∷ extension))
        → fault_of (step (at sum (Extension count size item found)) b) ≡ fault_at (length body) (in_line (d ∷ digits) pad (Some extension))
        b
    extension_table_at [] is = extension_table sum count size b d digits [] extension item found is
    extension_table_at (p ∷ pad) is = extension_table sum count size b d digits (p ∷ pad) extension item found is

-- digits, blanks, a semicolon and an extension are together as long as their line
extension_count : (digits pad extension : List ℕ) → length digits + (length pad + suc (length extension))
    ≡ length (digits ++ (pad ++ 59 ∷ extension))
extension_count digits pad extension = omega (arith, length-append digits (pad ++ 59 ∷ extension), length-append pad (59 ∷ extension))

-- a text that stands in an extension ends in a part with the same faults
extension_part : (text body : List ℕ) (sum count size : ℕ) (item : Item) (found : Bool) → InExtension text body sum count size item found
    → InPart text body sum (Extension count size item found)
extension_part text body sum count size item found s =
    let count_is : count ≡ length (s.digits ++ (s.pad ++ 59 ∷ s.extension)) = s.count_is ∙ extension_count s.digits s.pad s.extension in
    record {
      part = in_line s.digits s.pad (Some s.extension);
      ends = record {
        behind = behind_of s.front refl;
        all = s.writes.digits.1;
        blanks = s.blanks;
        bytes = s.all;
        begun = inl s.writes.digits.0;
        short = omega (arith, count_is, s.short);
        fits = omega (arith, s.writes.value, s.fits);
      };
      same = extension_same body sum count size s.digits s.pad s.extension item found s.writes.digits.0 count_is;
    }

-- a text that stands in a chunk for the reader ends in one for the grammar, with as much missing
chunk_part : {text body tail : List ℕ} {sum left : ℕ} → ChunkStands text body sum left tail → InChunk text body left tail
chunk_part s = record {
  done = s.done;
  bytes = s.bytes;
  line = s.l;
  size = s.size;
  behind = behind_of s.front refl;
  is = s.is;
  some = s.some;
  fits = omega (arith, s.sum_is, s.sum_fits);
  body_is = s.body_is;
  missing_is = s.left_is;
}

-- a text that stands in the trailers ends in them, where its part is bytes of a line and a tail
trailers_part : {text body part tail : List ℕ} {sum count : ℕ} {ieof : Bool} (line : List ℕ) → AllPass is_line_byte line
    → part ≡ line ++ tail
    → TrailersStand text body sum count ieof part → InTrailers text body count tail
trailers_part {text} {body} {part} {tail} {sum} {count} line bytes is s = record {
  last = s.l;
  lines = s.trailers;
  line = line;
  behind = behind_of s.front (ap (λ p. print_line s.l ++ (13 ∷ 10 ∷ (s.trailers ++ p))) is);
  is = s.is;
  whole = s.lines;
  bytes = bytes;
  count_is = omega (arith, s.count_is, ap length is, length-append line tail);
  short = s.short;
}

-- a text that stands at a place that is no end and no fault ends in a part with the same faults
pub place_part : (text body : List ℕ) (sum : ℕ) (place : Position) → LeavesAt text body sum place → end_at place ≡ None
    → faulted_at place ≡ None → InPart text body sum place
unfolding end_at faulted_at
place_part text body sum (Digits count size) s quiet sound = digits_part text body sum count size s
place_part text body sum (Pad count size) s quiet sound = pad_part text body sum count size s
place_part text body sum (Extension count size item found) s quiet sound = extension_part text body sum count size item found s
place_part text body sum (LineCr size ieof) s quiet sound = record {
  part = behind_line size;
  ends = record { line = s.l; behind = behind_of s.front refl; is = s.is };
  same = summed body sum (LineCr size ieof) (behind_line size) s.front.sum_is (λ b. line_end_table (length body) size b ieof);
}
place_part text body sum (Data more) s quiet sound =
    record { part = in_data; ends = (more + 1, omega arith, chunk_part s); same = λ b. data_table sum (length body) more b }
place_part text body sum DataEnd s quiet sound = record {
  part = behind_data;
  ends = chunk_part s;
  same = λ b. data_end_table sum (length body) b;
}
place_part text body sum DataCr s quiet sound = record {
  part = behind_data_cr;
  ends = chunk_part s;
  same = λ b. data_cr_table sum (length body) b;
}
place_part text body sum (TrailerStart count ieof) s quiet sound =
    record { part = in_trailers count; ends = trailers_part [] tt refl s; same = λ b. trailer_start_table sum (length body) count b ieof }
place_part text body sum (Trailer count ieof) s quiet sound =
    record {
      part = in_trailers count;
      ends = trailers_part s.0 s.3 (sym (append-nil s.0)) s.1;
      same = λ b. trailer_table sum (length body) count b ieof;
    }
place_part text body sum (TrailerCr count ieof) s quiet sound =
    record {
      part = behind_trailers_cr count;
      ends = trailers_part s.0 s.3 refl s.1;
      same = λ b. trailer_cr_table sum (length body) count b ieof;
    }
place_part text body sum (LastCr count ieof) s quiet sound =
    record { part = behind_trailers_cr count; ends = trailers_part [] tt refl s; same = λ b. last_cr_table sum (length body) count b ieof }
place_part text body sum (Ended ieof) s quiet sound = absurd cc
place_part text body sum (Faulted fault) s quiet sound = absurd cc

-- ---- from a part

-- a text that ends within a size line stands at a place with the same faults
line_place : (text body digits pad : List ℕ) (extension : Option (List ℕ)) → InLine text body digits pad extension
    → AtPlace text body (in_line digits pad extension)
unfolding end_at faulted_at
line_place text body digits [] None s =
    let nil : digits ++ ([] ++ []) ≡ digits = append-nil digits in record {
      sum = length body;
      place = Digits (length digits) (digits_value 16 digits);
      stands = record {
        digits = digits;
        front = front_of s.behind nil;
        all = s.all;
        count_is = refl;
        size_is = refl;
        short = omega (arith, s.short, ap length nil);
        fits = s.fits;
      };
      quiet = refl;
      sound = refl;
      same = λ b. digits_table (length body) (length digits) (digits_value 16 digits) b digits (ap length (sym nil)) refl;
    }
line_place text body [] (p ∷ pad) None s = absurd (elim s.begun [
  | inl some ↦ omega (arith, some)
  | inr none ↦
      let e : p ∷ pad ≡ [] = none.0 in cc
])
line_place text body (d ∷ digits) (p ∷ pad) None s =
    let nil : (d ∷ digits) ++ ((p ∷ pad) ++ []) ≡ (d ∷ digits) ++ (p ∷ pad) = ap (λ x. (d ∷ digits) ++ x) (append-nil (p ∷ pad)) in
    let count : length (d ∷ digits) + length (p ∷ pad) ≡ length ((d ∷ digits) ++ ((p ∷ pad) ++ [])) =
    omega (arith, ap length nil, length-append (d ∷ digits) (p ∷ pad)) in
    record {
      sum = length body;
      place = Pad (length (d ∷ digits) + length (p ∷ pad)) (digits_value 16 (d ∷ digits));
      stands = record {
        digits = d ∷ digits;
        pad = p ∷ pad;
        front = front_of s.behind nil;
        writes = record { digits = (omega arith, s.all); value = refl };
        blanks = s.blanks;
        some = omega arith;
        count_is = refl;
        short = omega (arith, s.short, count);
        fits = s.fits;
      };
      quiet = refl;
      sound = refl;
      same = λ b. pad_table (length body) (length (d ∷ digits) + length (p ∷ pad)) (digits_value 16 (d ∷ digits)) b d p digits pad count;
    }
line_place text body [] pad (Some extension) s = absurd (elim s.begun [
  | inl some ↦ omega (arith, some)
  | inr none ↦
      let e : Some extension ≡ None = none.1 in cc
])
line_place text body (d ∷ digits) pad (Some extension) s =
    let kept = extension_behind (Blank, false) extension in
    let count = extension_count (d ∷ digits) pad extension in
    record {
      sum = length body;
      place = Extension (length (d ∷ digits) + (length pad + suc (length extension))) (digits_value 16 (d ∷ digits)) kept.0 kept.1;
      stands = record {
        digits = d ∷ digits;
        pad = pad;
        extension = extension;
        front = front_of s.behind refl;
        writes = record { digits = (omega arith, s.all); value = refl };
        blanks = s.blanks;
        all = s.bytes;
        behind = refl;
        count_is = refl;
        short = omega (arith, s.short, count);
        fits = s.fits;
      };
      quiet = refl;
      sound = refl;
      same = λ b. extension_table (length body) (length (d ∷ digits) + (length pad + suc (length extension))) (digits_value 16 (d ∷ digits))
          b d digits pad extension kept.0 kept.1 count;
    }

-- a text that ends in a chunk for the grammar stands in one for the reader, with its size in the sum
chunk_place : {text body tail : List ℕ} {left : ℕ} (s : InChunk text body left tail)
    → ChunkStands text body (length s.done + s.size) left tail
chunk_place s = record {
  done = s.done;
  bytes = s.bytes;
  l = s.line;
  size = s.size;
  front = front_of s.behind refl;
  is = s.is;
  body_is = s.body_is;
  sum_is = refl;
  sum_fits = s.fits;
  left_is = s.missing_is;
  some = s.some;
}

-- a text that ends in trailers for the grammar stands in them for the reader, at the same line
trailers_place : {text body tail : List ℕ} {count : ℕ} (s : InTrailers text body count tail) (line : List ℕ) → s.line ≡ line
    → TrailersStand text body (length body) count (has_ieof s.last.extension) (line ++ tail)
trailers_place {text} {body} {tail} {count} s line is = record {
  l = s.last;
  trailers = s.lines;
  front = front_of s.behind (ap (λ p. print_line s.last ++ (13 ∷ 10 ∷ (s.lines ++ (p ++ tail)))) is);
  is = s.is;
  ieof_is = refl;
  lines = s.whole;
  count_is = omega (arith, s.count_is, ap length is, length-append line tail);
  short = s.short;
}

-- a text that ends within the trailers stands at a place with the same faults
in_trailers_place : (text body : List ℕ) (count : ℕ) (s : InTrailers text body count []) (line : List ℕ) → s.line ≡ line
    → AtPlace text body (in_trailers count)
unfolding end_at faulted_at
in_trailers_place text body count s [] is = record {
  sum = length body;
  place = TrailerStart count (has_ieof s.last.extension);
  stands = trailers_place s [] is;
  quiet = refl;
  sound = refl;
  same = λ b. trailer_start_table (length body) (length body) count b (has_ieof s.last.extension);
}
in_trailers_place text body count s (c ∷ line) is = record {
  sum = length body;
  place = Trailer count (has_ieof s.last.extension);
  stands = (
    c ∷ line,
    (let P : List ℕ → Type 0 = λ p. TrailersStand text body (length body) count (has_ieof s.last.extension) p in
        subst P (append-nil (c ∷ line)) (trailers_place s (c ∷ line) is)),
    lit_pos c line,
    (let Q : List ℕ → Type 0 = λ p. AllPass is_line_byte p in subst Q is s.bytes),
  );
  quiet = refl;
  sound = refl;
  same = λ b. trailer_table (length body) (length body) count b (has_ieof s.last.extension);
}
  where
    lit_pos : (c : ℕ) (line : List ℕ) → 0 < length (c ∷ line)
    lit_pos c line = omega arith

-- a text that ends after a CR of the trailers stands at a place with the same faults
behind_trailers_place : (text body : List ℕ) (count : ℕ) (s : InTrailers text body count (13 ∷ [])) (line : List ℕ) → s.line ≡ line
    → AtPlace text body (behind_trailers_cr count)
unfolding end_at faulted_at
behind_trailers_place text body count s [] is = record {
  sum = length body;
  place = LastCr count (has_ieof s.last.extension);
  stands = trailers_place s [] is;
  quiet = refl;
  sound = refl;
  same = λ b. last_cr_table (length body) (length body) count b (has_ieof s.last.extension);
}
behind_trailers_place text body count s (c ∷ line) is = record {
  sum = length body;
  place = TrailerCr count (has_ieof s.last.extension);
  stands = (
    c ∷ line,
    trailers_place s (c ∷ line) is,
    lit_pos c line,
    (let Q : List ℕ → Type 0 = λ p. AllPass is_line_byte p in subst Q is s.bytes),
  );
  quiet = refl;
  sound = refl;
  same = λ b. trailer_cr_table (length body) (length body) count b (has_ieof s.last.extension);
}
  where
    lit_pos : (c : ℕ) (line : List ℕ) → 0 < length (c ∷ line)
    lit_pos c line = omega arith

-- a text that ends in a part stands at a place with the same faults, which is no end and no fault
pub part_place : (text body : List ℕ) (part : Part) → EndsIn text body part → AtPlace text body part
unfolding end_at faulted_at
part_place text body (in_line digits pad extension) s = line_place text body digits pad extension s
part_place text body (behind_line size) s = record {
  sum = length body;
  place = LineCr size (has_ieof s.line.extension);
  stands = record { l = s.line; front = front_of s.behind refl; is = s.is; ieof_is = refl };
  quiet = refl;
  sound = refl;
  same = λ b. line_end_table (length body) size b (has_ieof s.line.extension);
}
part_place text body in_data s =
    let more = s.0 - 1 in
    let left : s.0 ≡ more + 1 = omega (arith, s.1) in
    record {
      sum = length s.2.done + s.2.size;
      place = Data more;
      stands = (let P : ℕ → Type 0 = λ n. ChunkStands text body (length s.2.done + s.2.size) n [] in subst P left (chunk_place s.2));
      quiet = refl;
      sound = refl;
      same = λ b. data_table (length s.2.done + s.2.size) (length body) more b;
    }
part_place text body behind_data s =
    record {
      sum = length s.done + s.size;
      place = DataEnd;
      stands = chunk_place s;
      quiet = refl;
      sound = refl;
      same = λ b. data_end_table (length s.done + s.size) (length body) b;
    }
part_place text body behind_data_cr s =
    record {
      sum = length s.done + s.size;
      place = DataCr;
      stands = chunk_place s;
      quiet = refl;
      sound = refl;
      same = λ b. data_cr_table (length s.done + s.size) (length body) b;
    }
part_place text body (in_trailers count) s = in_trailers_place text body count s s.line refl
part_place text body (behind_trailers_cr count) s = behind_trailers_place text body count s s.line refl
