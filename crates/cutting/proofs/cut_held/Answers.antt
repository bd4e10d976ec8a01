-- Each refusal by its code, and else the packet at the count's position, stored samples first.
use Rattle.std.proofs.Common.{◌≡◌, ◌≤◌, ◌+◌, ◌*◌, ℕ, List, ℤ, true, false, length, refl, sym, ap, ◌∙◌, arith}
use borrow.Author.Tests.{not-true, not-false, leb-true}
use Rattle.std.proofs.lemmas.List.Edits.{sets}
use lib.Dec.{leb}
use Rattle.wire.specs.Codes as Code
use Rattle.wire.proofs.Laws.{and_left, and_right}
use Rattle.packets.specs.declared.Form.{Form}
use Rattle.packets.specs.Forms.{total_of}
use Rattle.packets.specs.Samples.{all_samples}
use Rattle.packets.proofs.Forms.{is_listed_form, picked_some}
use Rattle.samples.specs.Packing.{may_pack, packed_of}
use Rattle.items.specs.Settings.{with_count}
use Rattle.station.specs.declared.Station.{Station}
use Rattle.station.specs.Station.{box_of, valid}
use Rattle.cutting.specs.Cutting.{form_now}
use Rattle.cutting.proofs.Codes.{refuses_unpacked, code_21, code_22, code_25, code_23, code_1, refuses, cuts}
use Rattle.cutting.proofs.Formed.{valid_form, valid_size, form_found, form_got}
use Rattle.cutting.proofs.Packing.{may_pack_lem, packed_none, packet_stored}
use Rattle.cutting.proofs.cut_held.Goals as goal

pub returns-then-not-is_sound : goal.returns-then-not-is_sound
returns-then-not-is_sound c =
    let s : Station = box_of c.args.parts.settings c.args.held.now c.args.parts.taken in
    let n = length c.args.packet.now in
    let code = code_21 s c.args.samples.now n (sym c.is_sound.ensures ∙ c.if-not-is_sound.true) in
    rw (← refuses s c.args.samples.now n 21 code (λ e. omega arith)) (refl, refl)

pub returns-then-not-settings : goal.returns-then-not-settings
returns-then-not-settings c =
    let s : Station = box_of c.args.parts.settings c.args.held.now c.args.parts.taken in
    let n = length c.args.packet.now in
    let code = code_22 s c.args.samples.now n (sym c.is_sound.ensures ∙ c.if-not-is_sound.false) (not-true _ c.if-not-settings.true) in
    rw (← refuses s c.args.samples.now n 22 code (λ e. omega arith)) (refl, refl)

pub returns-then-full : goal.returns-then-full
returns-then-full c =
    let s : Station = box_of c.args.parts.settings c.args.held.now c.args.parts.taken in
    let n = length c.args.packet.now in
    let code =
    code_25 s c.args.samples.now n (sym c.is_sound.ensures ∙ c.if-not-is_sound.false) (not-false _ c.if-not-settings.false) c.if-full.true in
    rw (← refuses s c.args.samples.now n 25 code (λ e. omega arith)) (refl, refl)

pub overflow_cast-settings : goal.overflow_cast-settings
overflow_cast-settings c =
    let s : Station = box_of c.args.parts.settings c.args.held.now c.args.parts.taken in
    omega (arith, valid_size s (sym c.is_sound.ensures ∙ c.if-not-is_sound.false))

pub unwrap-form-requires : goal.unwrap-form-requires
unwrap-form-requires c =
    let s : Station = box_of c.args.parts.settings c.args.held.now c.args.parts.taken in
    rw (c.form_for.ensures, form_found s (sym c.is_sound.ensures ∙ c.if-not-is_sound.false))

pub overflow_mul-form : goal.overflow_mul-form
overflow_mul-form c =
    let s : Station = box_of c.args.parts.settings c.args.held.now c.args.parts.taken in
    let few = (is_listed_form (form_now s.settings) (valid_form s (sym c.is_sound.ensures ∙ c.if-not-is_sound.false))).few in
    let got = form_got s c.form_for.result c.unwrap-form.result c.form_for.ensures c.unwrap-form.ensures in
    record { fits = omega (arith, few, ap (λ (f : Form). f.pairs) got) }

pub returns-then-samples-form : goal.returns-then-samples-form
returns-then-samples-form c =
    let s : Station = box_of c.args.parts.settings c.args.held.now c.args.parts.taken in
    let n = length c.args.packet.now in
    let got = form_got s c.form_for.result c.unwrap-form.result c.form_for.ensures c.unwrap-form.ensures in
    let other : length c.args.samples.now ≡ 2 * (form_now s.settings).pairs → ⊥ =
    λ e. c.if-samples-form.true (e ∙ ap (λ (f : Form). 2 * f.pairs) (sym got)) in
    let code =
    code_23 s c.args.samples.now n (sym c.is_sound.ensures ∙ c.if-not-is_sound.false) (not-false _ c.if-not-settings.false) c.if-full.false other in
    rw (← refuses s c.args.samples.now n 23 code (λ e. omega arith)) (refl, refl)

pub returns-then-not-pack : goal.returns-then-not-pack
returns-then-not-pack c =
    let s : Station = box_of c.args.parts.settings c.args.held.now c.args.parts.taken in
    let zs : List ℤ = c.args.samples.now in
    let lent : List ℕ = c.args.packet.now in
    let n = length lent in
    let fine : valid s ≡ true = sym c.is_sound.ensures ∙ c.if-not-is_sound.false in
    let got = form_got s c.form_for.result c.unwrap-form.result c.form_for.ensures c.unwrap-form.ensures in
    let many : length zs ≡ 2 * (form_now s.settings).pairs = c.if-samples-form.false ∙ ap (λ (f : Form). 2 * f.pairs) got in
    let none : may_pack (form_now s.settings) zs n ≡ false
    = ap (λ (f : Form). may_pack f zs n) (sym got) ∙ sym c.pack.ensures.0 ∙ c.if-not-pack.true in
    let unpacked =
    refuses_unpacked s zs n fine (not-false _ c.if-not-settings.false) c.if-full.false many
    (sym (may_pack_lem (form_now s.settings) zs n (valid_form s fine) many) ∙ none) in
    rw (c.not_packed.ensures, ← unpacked) (
      refl,
      c.pack.ensures.1
          ∙ ap (λ (f : Form). sets lent 4 (packed_of f zs n)) got
          ∙ ap (sets lent 4) (packed_none (form_now s.settings) zs n none),
    )

pub returns : goal.returns
returns c =
    let s : Station = box_of c.args.parts.settings c.args.held.now c.args.parts.taken in
    let zs : List ℤ = c.args.samples.now in
    let lent : List ℕ = c.args.packet.now in
    let n = length lent in
    let fine : valid s ≡ true = sym c.is_sound.ensures ∙ c.if-not-is_sound.false in
    let got = form_got s c.form_for.result c.unwrap-form.result c.form_for.ensures c.unwrap-form.ensures in
    let many : length zs ≡ 2 * (form_now s.settings).pairs = c.if-samples-form.false ∙ ap (λ (f : Form). 2 * f.pairs) got in
    let good : may_pack (form_now s.settings) zs n ≡ true
    = ap (λ (f : Form). may_pack f zs n) (sym got) ∙ sym c.pack.ensures.0 ∙ c.if-not-pack.false in
    let both = sym (may_pack_lem (form_now s.settings) zs n (valid_form s fine) many) ∙ good in
    let all : all_samples zs ≡ true = and_right (leb (total_of (form_now s.settings)) n) (all_samples zs) both in
    let room : total_of (form_now s.settings) ≤ n
    = leb-true (total_of (form_now s.settings)) n (and_left (leb (total_of (form_now s.settings)) n) (all_samples zs) both) in
    let total : c.unwrap-total.result ≡ total_of (form_now s.settings)
    = (picked_some _ _ _ (sym c.unwrap-total.ensures ∙ c.total_of.ensures)).1 ∙ ap total_of got in
    let code = code_1 s zs n fine (not-false _ c.if-not-settings.false) c.if-full.false many all room in
    rw (← cuts s zs n code) (
      ap (λ (wrote : ℕ). record { code = Code.done; wrote = wrote; settings = with_count (s.settings.count + 1) s.settings }) total,
      packet_stored (form_now s.settings) zs n lent c.pack.new.packet _ s.settings.count c.unwrap-total.result good total
          (c.pack.ensures.1 ∙ ap (λ (f : Form). sets lent 4 (packed_of f zs n)) got) c.put_leading.ensures,
    )
