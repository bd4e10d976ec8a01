-- Cutting: a running box makes the next packet of its capture from whole-number samples, I and Q in turn, with two channels those of the
-- first and of the second in turn (packets/specs/Channels).
use Rattle.std.specs.Prelude.{ℕ, Result, Ok, Err, ◌+◌, ◌*◌, not, List, [], ◌∷◌, ◌++◌, eqb, leb, ltb, ℤ, length}
use Rattle.wire.specs.Choice.{pick, Check, check, first_of}
use Rattle.wire.specs.Codes as Code
use Rattle.wire.specs.Number.{bytes}
use Rattle.wire.specs.Header.{header_of, type_data}
use Rattle.packets.specs.declared.Form.{Form}
use Rattle.packets.specs.Forms.{form_for, total_of}
use Rattle.packets.specs.Numbers.{number_at, most}
use Rattle.packets.specs.Samples.{all_samples, samples_bytes}
use Rattle.items.specs.declared.Settings.{Settings}
use Rattle.items.specs.Settings.{with_count}
use Rattle.station.specs.declared.Station.{Station}
use Rattle.station.specs.Station.{valid}
use Rattle.cutting.specs.declared.Cut as Made
use Rattle.wire.specs.Refusal.{refusal_code}
use Rattle.wire.specs.declared.refusal.Refusal.{Refusal}

-- what one call of cutting did: its code, how many bytes of packet it wrote, and the box after it
pub record Cut : Type 0 where
  pub code : ℕ
  pub wrote : ℕ
  pub station : Station

-- the same with a box whose held bytes were lent, and of the box its settings
pub record CutHeld : Type 0 where
  pub code : ℕ
  pub wrote : ℕ
  pub settings : Settings

-- "Header, 16-bit packet number, then I and Q in turn": the packet of a form at a position
abbrev pub packet_of : Form → ℕ → List ℤ → List ℕ
packet_of f position samples =
    bytes 2 (header_of type_data (total_of f)) ++ bytes 2 (number_at position) ++ samples_bytes f.bits samples

-- the form that a box cuts: its mode and packet size
abbrev pub form_now : Settings → Form
form_now s = form_for s.mode s.size

-- "Cutting 21, 22, 25, 23, 24, 20."
abbrev pub cut_checks : Station → List ℤ → ℕ → List Check
cut_checks s samples room =
    check Code.broken (not (valid s))
    ∷ check Code.while_idle (not s.settings.running)
    ∷ check Code.capture_full (leb most s.settings.count)
    ∷ check Code.wrong_count (not (eqb (length samples) (2 * (form_now s.settings).pairs)))
    ∷ check Code.not_a_sample (not (all_samples samples))
    ∷ check Code.no_room (ltb room (total_of (form_now s.settings)))
    ∷ []

unfoldable pub cut_code : Station → List ℤ → ℕ → ℕ
cut_code s samples room = first_of (cut_checks s samples room) Code.done

-- what a call returns, and the bytes that it writes at the start of the lent packet
pub record Cutting : Type 0 where
  pub cut : Cut
  pub bytes : List ℕ

abbrev pub refused : ℕ → Station → Cutting
refused code s = record { cut = record { code = code; wrote = 0; station = s }; bytes = [] }

-- the packet at the position that the count gives, and the box with one packet more
abbrev pub cut_from : Station → List ℤ → Cutting
cut_from s samples =
    record {
      cut =
          record {
            code = Code.done;
            wrote = total_of (form_now s.settings);
            station = record { settings = with_count (s.settings.count + 1) s.settings; store = s.store };
          };
      bytes = packet_of (form_now s.settings) s.settings.count samples;
    }

unfoldable pub cutting_of : Station → List ℤ → ℕ → Cutting
cutting_of s samples room =
    pick (eqb (cut_code s samples room) Code.done) (cut_from s samples) (refused (cut_code s samples room) s)

-- the same where the bytes held are lent: of the box there are left the settings
abbrev pub parts_of : Cut → CutHeld
parts_of c = record { code = c.code; wrote = c.wrote; settings = c.station.settings }

-- ---- the same of what the code answers with

abbrev pub cut_says : Station → Result (Made.Cut Station) Refusal → Cut
cut_says s (Ok c) = record { code = Code.done; wrote = c.wrote; station = c.left }
cut_says s (Err r) = (refused (refusal_code r) s).cut

abbrev pub held_says : Settings → Result (Made.Cut Settings) Refusal → CutHeld
held_says s (Ok c) = record { code = Code.done; wrote = c.wrote; settings = c.left }
held_says s (Err r) = record { code = refusal_code r; wrote = 0; settings = s }
