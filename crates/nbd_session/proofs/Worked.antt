-- The worked conversations are what the definition says.
use Rattle.std.proofs.Common.{◌≡◌, ◌≢◌, ℕ, ◌≤◌, List, [], ◌∷◌, length, get_or, refl, ap, inl, inr, arith, lit≤, true, false}
use Rattle.nbd_wire.specs.declared.requests.RequestHead.{RequestHead}
use Rattle.nbd_wire.specs.Grammar.{head_text, reply_head_text, option_head_text, IsHead}
use Rattle.nbd_options.specs.declared.attach.Attached.TheVariants as attached
use Rattle.nbd_options.specs.declared.saying.HaggleEnd.TheVariants as haggle_ends
use Rattle.nbd_options.specs.Haggled.{greeting_text}
use Rattle.nbd_session.specs.declared.outcomes.End.TheVariants as ends
use Rattle.nbd_session.specs.declared.outcomes.Entry.TheVariants as entries
use Rattle.nbd_session.specs.Requests.{IsAnswered, opened, arriving, after, reply_to}
use Rattle.nbd_session.specs.Conversation.{Talked}
use Rattle.nbd_session.specs.Worked.{one_export, written_bytes, written_text, chosen_bytes, chosen_text, zeros_bytes, zeros_text, unknown_flag_bytes, unknown_flag_text, silent_bytes, silent_text, unnamed_bytes, unnamed_text, past_end_bytes, past_end_text, cut_head_bytes, cut_head_text, cut_payload_bytes, cut_payload_text, other_magic_bytes, other_magic_text, too_long_bytes, too_long_text}

plain_answered : (h : RequestHead) → IsHead h → h.kind ≢ 1 → h.kind ≢ 2 → IsAnswered (record { head = h; payload = [] })
plain_answered h fits no_write no_disc = record {
  request = record { fits = fits; write = λ w. absurd (no_write w); short = λ t. absurd (no_write t.write); other = λ _. refl };
  no_disc = no_disc;
}

write_answered : (h : RequestHead) (payload : List ℕ) → IsHead h → h.kind ≡ 1 → length payload ≡ h.length → h.length ≤ 33554432 → IsAnswered (record { head = h; payload = payload })
write_answered h payload fits write whole short = record {
  request = record { fits = fits; write = λ _. whole; short = λ t. absurd (omega (arith, t.long, short)); other = λ no_write. absurd (no_write write) };
  no_disc = λ disc. absurd (omega (arith, write, disc));
}

pub written : Talked one_export written_bytes written_text ends.Disc
unfolding head_text reply_head_text option_head_text greeting_text opened arriving after reply_to
written =
    record {
      entry = entries.In 0;
      rest = 37 ∷ 96 ∷ 149 ∷ 19 ∷ 0 ∷ 0 ∷ 0 ∷ 1 ∷ 0 ∷ 0 ∷ 0 ∷ 0 ∷ 0 ∷ 0 ∷ 0 ∷ 1 ∷ 0 ∷ 0 ∷ 0 ∷ 0 ∷ 0 ∷ 0 ∷ 15 ∷ 252 ∷ 0 ∷ 0 ∷ 0 ∷ 4 ∷ 222 ∷ 173 ∷ 190 ∷ 239 ∷ 37 ∷ 96 ∷ 149 ∷ 19 ∷ 0 ∷ 0 ∷ 0 ∷ 0 ∷ 0 ∷ 0 ∷ 0 ∷ 0 ∷ 0 ∷ 0 ∷ 0 ∷ 2 ∷ 0 ∷ 0 ∷ 0 ∷ 0 ∷ 0 ∷ 0 ∷ 15 ∷ 252 ∷ 0 ∷ 0 ∷ 0 ∷ 4 ∷ 37 ∷ 96 ∷ 149 ∷ 19 ∷ 0 ∷ 0 ∷ 0 ∷ 2 ∷ 0 ∷ 0 ∷ 0 ∷ 0 ∷ 0 ∷ 0 ∷ 0 ∷ 3 ∷ 0 ∷ 0 ∷ 0 ∷ 0 ∷ 0 ∷ 0 ∷ 0 ∷ 0 ∷ 0 ∷ 0 ∷ 0 ∷ 0 ∷ [];
      first = 78 ∷ 66 ∷ 68 ∷ 77 ∷ 65 ∷ 71 ∷ 73 ∷ 67 ∷ 73 ∷ 72 ∷ 65 ∷ 86 ∷ 69 ∷ 79 ∷ 80 ∷ 84 ∷ 0 ∷ 3 ∷ 0 ∷ 0 ∷ 0 ∷ 0 ∷ 0 ∷ 0 ∷ 16 ∷ 0 ∷ 5 ∷ 109 ∷ [];
      later = 103 ∷ 68 ∷ 102 ∷ 152 ∷ 0 ∷ 0 ∷ 0 ∷ 0 ∷ 0 ∷ 0 ∷ 0 ∷ 0 ∷ 0 ∷ 0 ∷ 0 ∷ 1 ∷ 103 ∷ 68 ∷ 102 ∷ 152 ∷ 0 ∷ 0 ∷ 0 ∷ 0 ∷ 0 ∷ 0 ∷ 0 ∷ 0 ∷ 0 ∷ 0 ∷ 0 ∷ 2 ∷ 222 ∷ 173 ∷ 190 ∷ 239 ∷ [];
      shaken = (
        0 ∷ 0 ∷ 0 ∷ 0 ∷ 0 ∷ 0 ∷ 16 ∷ 0 ∷ 5 ∷ 109 ∷ [],
        refl,
        inr (record {
          flags = 3;
          more = 73 ∷ 72 ∷ 65 ∷ 86 ∷ 69 ∷ 79 ∷ 80 ∷ 84 ∷ 0 ∷ 0 ∷ 0 ∷ 1 ∷ 0 ∷ 0 ∷ 0 ∷ 1 ∷ 97 ∷ 37 ∷ 96 ∷ 149 ∷ 19 ∷ 0 ∷ 0 ∷ 0 ∷ 1 ∷ 0 ∷ 0 ∷ 0 ∷ 0 ∷ 0 ∷ 0 ∷ 0 ∷ 1 ∷ 0 ∷ 0 ∷ 0 ∷ 0 ∷ 0 ∷ 0 ∷ 15 ∷ 252 ∷ 0 ∷ 0 ∷ 0 ∷ 4 ∷ 222 ∷ 173 ∷ 190 ∷ 239 ∷ 37 ∷ 96 ∷ 149 ∷ 19 ∷ 0 ∷ 0 ∷ 0 ∷ 0 ∷ 0 ∷ 0 ∷ 0 ∷ 0 ∷ 0 ∷ 0 ∷ 0 ∷ 2 ∷ 0 ∷ 0 ∷ 0 ∷ 0 ∷ 0 ∷ 0 ∷ 15 ∷ 252 ∷ 0 ∷ 0 ∷ 0 ∷ 4 ∷ 37 ∷ 96 ∷ 149 ∷ 19 ∷ 0 ∷ 0 ∷ 0 ∷ 2 ∷ 0 ∷ 0 ∷ 0 ∷ 0 ∷ 0 ∷ 0 ∷ 0 ∷ 3 ∷ 0 ∷ 0 ∷ 0 ∷ 0 ∷ 0 ∷ 0 ∷ 0 ∷ 0 ∷ 0 ∷ 0 ∷ 0 ∷ 0 ∷ [];
          bare = true;
          spelled = refl;
          fits = lit≤ tt;
          known = refl;
          haggles = record {
            options = [];
            behind = 73 ∷ 72 ∷ 65 ∷ 86 ∷ 69 ∷ 79 ∷ 80 ∷ 84 ∷ 0 ∷ 0 ∷ 0 ∷ 1 ∷ 0 ∷ 0 ∷ 0 ∷ 1 ∷ 97 ∷ 37 ∷ 96 ∷ 149 ∷ 19 ∷ 0 ∷ 0 ∷ 0 ∷ 1 ∷ 0 ∷ 0 ∷ 0 ∷ 0 ∷ 0 ∷ 0 ∷ 0 ∷ 1 ∷ 0 ∷ 0 ∷ 0 ∷ 0 ∷ 0 ∷ 0 ∷ 15 ∷ 252 ∷ 0 ∷ 0 ∷ 0 ∷ 4 ∷ 222 ∷ 173 ∷ 190 ∷ 239 ∷ 37 ∷ 96 ∷ 149 ∷ 19 ∷ 0 ∷ 0 ∷ 0 ∷ 0 ∷ 0 ∷ 0 ∷ 0 ∷ 0 ∷ 0 ∷ 0 ∷ 0 ∷ 2 ∷ 0 ∷ 0 ∷ 0 ∷ 0 ∷ 0 ∷ 0 ∷ 15 ∷ 252 ∷ 0 ∷ 0 ∷ 0 ∷ 4 ∷ 37 ∷ 96 ∷ 149 ∷ 19 ∷ 0 ∷ 0 ∷ 0 ∷ 2 ∷ 0 ∷ 0 ∷ 0 ∷ 0 ∷ 0 ∷ 0 ∷ 0 ∷ 3 ∷ 0 ∷ 0 ∷ 0 ∷ 0 ∷ 0 ∷ 0 ∷ 0 ∷ 0 ∷ 0 ∷ 0 ∷ 0 ∷ 0 ∷ [];
            later = 0 ∷ 0 ∷ 0 ∷ 0 ∷ 0 ∷ 0 ∷ 16 ∷ 0 ∷ 5 ∷ 109 ∷ [];
            spelled = refl;
            said = refl;
            each = tt;
            few = lit≤ tt;
            ends = inr (record {
              last = record { option = record { number = 1; content = 97 ∷ [] }; answer = attached.Given };
              asked = record { number = lit≤ tt; short = lit≤ tt; answer = refl };
              few = lit≤ tt;
              spelled = refl;
              end = haggle_ends.Entered 0;
              said = refl;
              is = refl;
            });
          };
        }),
      );
      said = refl;
      continues = record {
        requests = (record { head = record { flags = 0; kind = 1; cookie = 1; offset = 4092; length = 4 }; payload = 222 ∷ 173 ∷ 190 ∷ 239 ∷ [] }) ∷ (record { head = record { flags = 0; kind = 0; cookie = 2; offset = 4092; length = 4 }; payload = [] }) ∷ [];
        rest = 37 ∷ 96 ∷ 149 ∷ 19 ∷ 0 ∷ 0 ∷ 0 ∷ 2 ∷ 0 ∷ 0 ∷ 0 ∷ 0 ∷ 0 ∷ 0 ∷ 0 ∷ 3 ∷ 0 ∷ 0 ∷ 0 ∷ 0 ∷ 0 ∷ 0 ∷ 0 ∷ 0 ∷ 0 ∷ 0 ∷ 0 ∷ 0 ∷ [];
        spelled = refl;
        said = refl;
        answered = (write_answered (record { flags = 0; kind = 1; cookie = 1; offset = 4092; length = 4 }) (222 ∷ 173 ∷ 190 ∷ 239 ∷ []) (record { flags = lit≤ tt; kind = lit≤ tt; cookie = lit≤ tt; offset = lit≤ tt; count = lit≤ tt }) refl refl (lit≤ tt), (λ w. (cc)), (plain_answered (record { flags = 0; kind = 0; cookie = 2; offset = 4092; length = 4 }) (record { flags = lit≤ tt; kind = lit≤ tt; cookie = lit≤ tt; offset = lit≤ tt; count = lit≤ tt }) (λ e. absurd (omega (arith, e))) (λ e. absurd (omega (arith, e))), (λ w. (cc)), tt));
        ends = inl (record { flags = 0; kind = 2; cookie = 3; offset = 0; length = 0 }, [], refl, record { flags = lit≤ tt; kind = lit≤ tt; cookie = lit≤ tt; offset = lit≤ tt; count = lit≤ tt }, refl);
      };
    }

pub chosen : Talked one_export chosen_bytes chosen_text ends.Over
unfolding head_text reply_head_text option_head_text greeting_text opened arriving after reply_to
chosen =
    record {
      entry = entries.In 0;
      rest = [];
      first = 78 ∷ 66 ∷ 68 ∷ 77 ∷ 65 ∷ 71 ∷ 73 ∷ 67 ∷ 73 ∷ 72 ∷ 65 ∷ 86 ∷ 69 ∷ 79 ∷ 80 ∷ 84 ∷ 0 ∷ 3 ∷ 0 ∷ 0 ∷ 0 ∷ 0 ∷ 0 ∷ 0 ∷ 16 ∷ 0 ∷ 5 ∷ 109 ∷ [];
      later = [];
      shaken = (
        0 ∷ 0 ∷ 0 ∷ 0 ∷ 0 ∷ 0 ∷ 16 ∷ 0 ∷ 5 ∷ 109 ∷ [],
        refl,
        inr (record {
          flags = 3;
          more = 73 ∷ 72 ∷ 65 ∷ 86 ∷ 69 ∷ 79 ∷ 80 ∷ 84 ∷ 0 ∷ 0 ∷ 0 ∷ 1 ∷ 0 ∷ 0 ∷ 0 ∷ 1 ∷ 97 ∷ [];
          bare = true;
          spelled = refl;
          fits = lit≤ tt;
          known = refl;
          haggles = record {
            options = [];
            behind = 73 ∷ 72 ∷ 65 ∷ 86 ∷ 69 ∷ 79 ∷ 80 ∷ 84 ∷ 0 ∷ 0 ∷ 0 ∷ 1 ∷ 0 ∷ 0 ∷ 0 ∷ 1 ∷ 97 ∷ [];
            later = 0 ∷ 0 ∷ 0 ∷ 0 ∷ 0 ∷ 0 ∷ 16 ∷ 0 ∷ 5 ∷ 109 ∷ [];
            spelled = refl;
            said = refl;
            each = tt;
            few = lit≤ tt;
            ends = inr (record {
              last = record { option = record { number = 1; content = 97 ∷ [] }; answer = attached.Given };
              asked = record { number = lit≤ tt; short = lit≤ tt; answer = refl };
              few = lit≤ tt;
              spelled = refl;
              end = haggle_ends.Entered 0;
              said = refl;
              is = refl;
            });
          };
        }),
      );
      said = refl;
      continues = record {
        requests = [];
        rest = [];
        spelled = refl;
        said = refl;
        answered = tt;
        ends = inl refl;
      };
    }

pub zeros : Talked one_export zeros_bytes zeros_text ends.Over
unfolding head_text reply_head_text option_head_text greeting_text opened arriving after reply_to
zeros =
    record {
      entry = entries.In 0;
      rest = [];
      first = 78 ∷ 66 ∷ 68 ∷ 77 ∷ 65 ∷ 71 ∷ 73 ∷ 67 ∷ 73 ∷ 72 ∷ 65 ∷ 86 ∷ 69 ∷ 79 ∷ 80 ∷ 84 ∷ 0 ∷ 3 ∷ 0 ∷ 0 ∷ 0 ∷ 0 ∷ 0 ∷ 0 ∷ 16 ∷ 0 ∷ 5 ∷ 109 ∷ 0 ∷ 0 ∷ 0 ∷ 0 ∷ 0 ∷ 0 ∷ 0 ∷ 0 ∷ 0 ∷ 0 ∷ 0 ∷ 0 ∷ 0 ∷ 0 ∷ 0 ∷ 0 ∷ 0 ∷ 0 ∷ 0 ∷ 0 ∷ 0 ∷ 0 ∷ 0 ∷ 0 ∷ 0 ∷ 0 ∷ 0 ∷ 0 ∷ 0 ∷ 0 ∷ 0 ∷ 0 ∷ 0 ∷ 0 ∷ 0 ∷ 0 ∷ 0 ∷ 0 ∷ 0 ∷ 0 ∷ 0 ∷ 0 ∷ 0 ∷ 0 ∷ 0 ∷ 0 ∷ 0 ∷ 0 ∷ 0 ∷ 0 ∷ 0 ∷ 0 ∷ 0 ∷ 0 ∷ 0 ∷ 0 ∷ 0 ∷ 0 ∷ 0 ∷ 0 ∷ 0 ∷ 0 ∷ 0 ∷ 0 ∷ 0 ∷ 0 ∷ 0 ∷ 0 ∷ 0 ∷ 0 ∷ 0 ∷ 0 ∷ 0 ∷ 0 ∷ 0 ∷ 0 ∷ 0 ∷ 0 ∷ 0 ∷ 0 ∷ 0 ∷ 0 ∷ 0 ∷ 0 ∷ 0 ∷ 0 ∷ 0 ∷ 0 ∷ 0 ∷ 0 ∷ 0 ∷ 0 ∷ 0 ∷ 0 ∷ 0 ∷ 0 ∷ 0 ∷ 0 ∷ 0 ∷ 0 ∷ 0 ∷ 0 ∷ 0 ∷ 0 ∷ 0 ∷ 0 ∷ 0 ∷ 0 ∷ 0 ∷ 0 ∷ 0 ∷ 0 ∷ 0 ∷ 0 ∷ 0 ∷ 0 ∷ 0 ∷ 0 ∷ 0 ∷ 0 ∷ 0 ∷ 0 ∷ 0 ∷ 0 ∷ [];
      later = [];
      shaken = (
        0 ∷ 0 ∷ 0 ∷ 0 ∷ 0 ∷ 0 ∷ 16 ∷ 0 ∷ 5 ∷ 109 ∷ 0 ∷ 0 ∷ 0 ∷ 0 ∷ 0 ∷ 0 ∷ 0 ∷ 0 ∷ 0 ∷ 0 ∷ 0 ∷ 0 ∷ 0 ∷ 0 ∷ 0 ∷ 0 ∷ 0 ∷ 0 ∷ 0 ∷ 0 ∷ 0 ∷ 0 ∷ 0 ∷ 0 ∷ 0 ∷ 0 ∷ 0 ∷ 0 ∷ 0 ∷ 0 ∷ 0 ∷ 0 ∷ 0 ∷ 0 ∷ 0 ∷ 0 ∷ 0 ∷ 0 ∷ 0 ∷ 0 ∷ 0 ∷ 0 ∷ 0 ∷ 0 ∷ 0 ∷ 0 ∷ 0 ∷ 0 ∷ 0 ∷ 0 ∷ 0 ∷ 0 ∷ 0 ∷ 0 ∷ 0 ∷ 0 ∷ 0 ∷ 0 ∷ 0 ∷ 0 ∷ 0 ∷ 0 ∷ 0 ∷ 0 ∷ 0 ∷ 0 ∷ 0 ∷ 0 ∷ 0 ∷ 0 ∷ 0 ∷ 0 ∷ 0 ∷ 0 ∷ 0 ∷ 0 ∷ 0 ∷ 0 ∷ 0 ∷ 0 ∷ 0 ∷ 0 ∷ 0 ∷ 0 ∷ 0 ∷ 0 ∷ 0 ∷ 0 ∷ 0 ∷ 0 ∷ 0 ∷ 0 ∷ 0 ∷ 0 ∷ 0 ∷ 0 ∷ 0 ∷ 0 ∷ 0 ∷ 0 ∷ 0 ∷ 0 ∷ 0 ∷ 0 ∷ 0 ∷ 0 ∷ 0 ∷ 0 ∷ 0 ∷ 0 ∷ 0 ∷ 0 ∷ 0 ∷ 0 ∷ 0 ∷ 0 ∷ 0 ∷ 0 ∷ 0 ∷ 0 ∷ 0 ∷ 0 ∷ 0 ∷ 0 ∷ [],
        refl,
        inr (record {
          flags = 1;
          more = 73 ∷ 72 ∷ 65 ∷ 86 ∷ 69 ∷ 79 ∷ 80 ∷ 84 ∷ 0 ∷ 0 ∷ 0 ∷ 1 ∷ 0 ∷ 0 ∷ 0 ∷ 1 ∷ 97 ∷ [];
          bare = false;
          spelled = refl;
          fits = lit≤ tt;
          known = refl;
          haggles = record {
            options = [];
            behind = 73 ∷ 72 ∷ 65 ∷ 86 ∷ 69 ∷ 79 ∷ 80 ∷ 84 ∷ 0 ∷ 0 ∷ 0 ∷ 1 ∷ 0 ∷ 0 ∷ 0 ∷ 1 ∷ 97 ∷ [];
            later = 0 ∷ 0 ∷ 0 ∷ 0 ∷ 0 ∷ 0 ∷ 16 ∷ 0 ∷ 5 ∷ 109 ∷ 0 ∷ 0 ∷ 0 ∷ 0 ∷ 0 ∷ 0 ∷ 0 ∷ 0 ∷ 0 ∷ 0 ∷ 0 ∷ 0 ∷ 0 ∷ 0 ∷ 0 ∷ 0 ∷ 0 ∷ 0 ∷ 0 ∷ 0 ∷ 0 ∷ 0 ∷ 0 ∷ 0 ∷ 0 ∷ 0 ∷ 0 ∷ 0 ∷ 0 ∷ 0 ∷ 0 ∷ 0 ∷ 0 ∷ 0 ∷ 0 ∷ 0 ∷ 0 ∷ 0 ∷ 0 ∷ 0 ∷ 0 ∷ 0 ∷ 0 ∷ 0 ∷ 0 ∷ 0 ∷ 0 ∷ 0 ∷ 0 ∷ 0 ∷ 0 ∷ 0 ∷ 0 ∷ 0 ∷ 0 ∷ 0 ∷ 0 ∷ 0 ∷ 0 ∷ 0 ∷ 0 ∷ 0 ∷ 0 ∷ 0 ∷ 0 ∷ 0 ∷ 0 ∷ 0 ∷ 0 ∷ 0 ∷ 0 ∷ 0 ∷ 0 ∷ 0 ∷ 0 ∷ 0 ∷ 0 ∷ 0 ∷ 0 ∷ 0 ∷ 0 ∷ 0 ∷ 0 ∷ 0 ∷ 0 ∷ 0 ∷ 0 ∷ 0 ∷ 0 ∷ 0 ∷ 0 ∷ 0 ∷ 0 ∷ 0 ∷ 0 ∷ 0 ∷ 0 ∷ 0 ∷ 0 ∷ 0 ∷ 0 ∷ 0 ∷ 0 ∷ 0 ∷ 0 ∷ 0 ∷ 0 ∷ 0 ∷ 0 ∷ 0 ∷ 0 ∷ 0 ∷ 0 ∷ 0 ∷ 0 ∷ 0 ∷ 0 ∷ 0 ∷ 0 ∷ 0 ∷ 0 ∷ 0 ∷ 0 ∷ 0 ∷ [];
            spelled = refl;
            said = refl;
            each = tt;
            few = lit≤ tt;
            ends = inr (record {
              last = record { option = record { number = 1; content = 97 ∷ [] }; answer = attached.Given };
              asked = record { number = lit≤ tt; short = lit≤ tt; answer = refl };
              few = lit≤ tt;
              spelled = refl;
              end = haggle_ends.Entered 0;
              said = refl;
              is = refl;
            });
          };
        }),
      );
      said = refl;
      continues = record {
        requests = [];
        rest = [];
        spelled = refl;
        said = refl;
        answered = tt;
        ends = inl refl;
      };
    }

pub unknown_flag : Talked one_export unknown_flag_bytes unknown_flag_text ends.BadFlags
unfolding head_text reply_head_text option_head_text greeting_text opened arriving after reply_to
unknown_flag =
    record {
      entry = entries.Out ends.BadFlags;
      rest = 0 ∷ 0 ∷ 0 ∷ 4 ∷ 73 ∷ 72 ∷ 65 ∷ 86 ∷ 69 ∷ 79 ∷ 80 ∷ 84 ∷ 0 ∷ 0 ∷ 0 ∷ 1 ∷ 0 ∷ 0 ∷ 0 ∷ 1 ∷ 97 ∷ [];
      first = 78 ∷ 66 ∷ 68 ∷ 77 ∷ 65 ∷ 71 ∷ 73 ∷ 67 ∷ 73 ∷ 72 ∷ 65 ∷ 86 ∷ 69 ∷ 79 ∷ 80 ∷ 84 ∷ 0 ∷ 3 ∷ [];
      later = [];
      shaken = ([], refl, inl (refl, refl, (4, 73 ∷ 72 ∷ 65 ∷ 86 ∷ 69 ∷ 79 ∷ 80 ∷ 84 ∷ 0 ∷ 0 ∷ 0 ∷ 1 ∷ 0 ∷ 0 ∷ 0 ∷ 1 ∷ 97 ∷ [], refl, lit≤ tt, refl)));
      said = refl;
      continues = (refl, refl);
    }

pub silent : Talked one_export silent_bytes silent_text ends.Over
unfolding head_text reply_head_text option_head_text greeting_text opened arriving after reply_to
silent =
    record {
      entry = entries.Out ends.Over;
      rest = [];
      first = 78 ∷ 66 ∷ 68 ∷ 77 ∷ 65 ∷ 71 ∷ 73 ∷ 67 ∷ 73 ∷ 72 ∷ 65 ∷ 86 ∷ 69 ∷ 79 ∷ 80 ∷ 84 ∷ 0 ∷ 3 ∷ [];
      later = [];
      shaken = ([], refl, inl (refl, refl, refl));
      said = refl;
      continues = (refl, refl);
    }

pub unnamed : Talked one_export unnamed_bytes unnamed_text ends.NoExport
unfolding head_text reply_head_text option_head_text greeting_text opened arriving after reply_to
unnamed =
    record {
      entry = entries.Out ends.NoExport;
      rest = [];
      first = 78 ∷ 66 ∷ 68 ∷ 77 ∷ 65 ∷ 71 ∷ 73 ∷ 67 ∷ 73 ∷ 72 ∷ 65 ∷ 86 ∷ 69 ∷ 79 ∷ 80 ∷ 84 ∷ 0 ∷ 3 ∷ [];
      later = [];
      shaken = (
        [],
        refl,
        inr (record {
          flags = 3;
          more = 73 ∷ 72 ∷ 65 ∷ 86 ∷ 69 ∷ 79 ∷ 80 ∷ 84 ∷ 0 ∷ 0 ∷ 0 ∷ 1 ∷ 0 ∷ 0 ∷ 0 ∷ 2 ∷ 122 ∷ 122 ∷ [];
          bare = true;
          spelled = refl;
          fits = lit≤ tt;
          known = refl;
          haggles = record {
            options = [];
            behind = 73 ∷ 72 ∷ 65 ∷ 86 ∷ 69 ∷ 79 ∷ 80 ∷ 84 ∷ 0 ∷ 0 ∷ 0 ∷ 1 ∷ 0 ∷ 0 ∷ 0 ∷ 2 ∷ 122 ∷ 122 ∷ [];
            later = [];
            spelled = refl;
            said = refl;
            each = tt;
            few = lit≤ tt;
            ends = inr (record {
              last = record { option = record { number = 1; content = 122 ∷ 122 ∷ [] }; answer = attached.Given };
              asked = record { number = lit≤ tt; short = lit≤ tt; answer = refl };
              few = lit≤ tt;
              spelled = refl;
              end = haggle_ends.NoExport;
              said = refl;
              is = refl;
            });
          };
        }),
      );
      said = refl;
      continues = (refl, refl);
    }

pub past_end : Talked one_export past_end_bytes past_end_text ends.Over
unfolding head_text reply_head_text option_head_text greeting_text opened arriving after reply_to
past_end =
    record {
      entry = entries.In 0;
      rest = 37 ∷ 96 ∷ 149 ∷ 19 ∷ 0 ∷ 0 ∷ 0 ∷ 1 ∷ 0 ∷ 0 ∷ 0 ∷ 0 ∷ 0 ∷ 0 ∷ 0 ∷ 1 ∷ 0 ∷ 0 ∷ 0 ∷ 0 ∷ 0 ∷ 0 ∷ 15 ∷ 252 ∷ 0 ∷ 0 ∷ 0 ∷ 4 ∷ 222 ∷ 173 ∷ 190 ∷ 239 ∷ 37 ∷ 96 ∷ 149 ∷ 19 ∷ 0 ∷ 0 ∷ 0 ∷ 1 ∷ 0 ∷ 0 ∷ 0 ∷ 0 ∷ 0 ∷ 0 ∷ 0 ∷ 2 ∷ 0 ∷ 0 ∷ 0 ∷ 0 ∷ 0 ∷ 0 ∷ 15 ∷ 252 ∷ 0 ∷ 0 ∷ 0 ∷ 5 ∷ 1 ∷ 2 ∷ 3 ∷ 4 ∷ 5 ∷ 37 ∷ 96 ∷ 149 ∷ 19 ∷ 0 ∷ 0 ∷ 0 ∷ 0 ∷ 0 ∷ 0 ∷ 0 ∷ 0 ∷ 0 ∷ 0 ∷ 0 ∷ 3 ∷ 0 ∷ 0 ∷ 0 ∷ 0 ∷ 0 ∷ 0 ∷ 15 ∷ 252 ∷ 0 ∷ 0 ∷ 0 ∷ 5 ∷ 37 ∷ 96 ∷ 149 ∷ 19 ∷ 0 ∷ 0 ∷ 0 ∷ 0 ∷ 0 ∷ 0 ∷ 0 ∷ 0 ∷ 0 ∷ 0 ∷ 0 ∷ 4 ∷ 0 ∷ 0 ∷ 0 ∷ 0 ∷ 0 ∷ 0 ∷ 15 ∷ 252 ∷ 0 ∷ 0 ∷ 0 ∷ 4 ∷ [];
      first = 78 ∷ 66 ∷ 68 ∷ 77 ∷ 65 ∷ 71 ∷ 73 ∷ 67 ∷ 73 ∷ 72 ∷ 65 ∷ 86 ∷ 69 ∷ 79 ∷ 80 ∷ 84 ∷ 0 ∷ 3 ∷ 0 ∷ 0 ∷ 0 ∷ 0 ∷ 0 ∷ 0 ∷ 16 ∷ 0 ∷ 5 ∷ 109 ∷ [];
      later = 103 ∷ 68 ∷ 102 ∷ 152 ∷ 0 ∷ 0 ∷ 0 ∷ 0 ∷ 0 ∷ 0 ∷ 0 ∷ 0 ∷ 0 ∷ 0 ∷ 0 ∷ 1 ∷ 103 ∷ 68 ∷ 102 ∷ 152 ∷ 0 ∷ 0 ∷ 0 ∷ 28 ∷ 0 ∷ 0 ∷ 0 ∷ 0 ∷ 0 ∷ 0 ∷ 0 ∷ 2 ∷ 103 ∷ 68 ∷ 102 ∷ 152 ∷ 0 ∷ 0 ∷ 0 ∷ 22 ∷ 0 ∷ 0 ∷ 0 ∷ 0 ∷ 0 ∷ 0 ∷ 0 ∷ 3 ∷ 103 ∷ 68 ∷ 102 ∷ 152 ∷ 0 ∷ 0 ∷ 0 ∷ 0 ∷ 0 ∷ 0 ∷ 0 ∷ 0 ∷ 0 ∷ 0 ∷ 0 ∷ 4 ∷ 222 ∷ 173 ∷ 190 ∷ 239 ∷ [];
      shaken = (
        0 ∷ 0 ∷ 0 ∷ 0 ∷ 0 ∷ 0 ∷ 16 ∷ 0 ∷ 5 ∷ 109 ∷ [],
        refl,
        inr (record {
          flags = 3;
          more = 73 ∷ 72 ∷ 65 ∷ 86 ∷ 69 ∷ 79 ∷ 80 ∷ 84 ∷ 0 ∷ 0 ∷ 0 ∷ 1 ∷ 0 ∷ 0 ∷ 0 ∷ 1 ∷ 97 ∷ 37 ∷ 96 ∷ 149 ∷ 19 ∷ 0 ∷ 0 ∷ 0 ∷ 1 ∷ 0 ∷ 0 ∷ 0 ∷ 0 ∷ 0 ∷ 0 ∷ 0 ∷ 1 ∷ 0 ∷ 0 ∷ 0 ∷ 0 ∷ 0 ∷ 0 ∷ 15 ∷ 252 ∷ 0 ∷ 0 ∷ 0 ∷ 4 ∷ 222 ∷ 173 ∷ 190 ∷ 239 ∷ 37 ∷ 96 ∷ 149 ∷ 19 ∷ 0 ∷ 0 ∷ 0 ∷ 1 ∷ 0 ∷ 0 ∷ 0 ∷ 0 ∷ 0 ∷ 0 ∷ 0 ∷ 2 ∷ 0 ∷ 0 ∷ 0 ∷ 0 ∷ 0 ∷ 0 ∷ 15 ∷ 252 ∷ 0 ∷ 0 ∷ 0 ∷ 5 ∷ 1 ∷ 2 ∷ 3 ∷ 4 ∷ 5 ∷ 37 ∷ 96 ∷ 149 ∷ 19 ∷ 0 ∷ 0 ∷ 0 ∷ 0 ∷ 0 ∷ 0 ∷ 0 ∷ 0 ∷ 0 ∷ 0 ∷ 0 ∷ 3 ∷ 0 ∷ 0 ∷ 0 ∷ 0 ∷ 0 ∷ 0 ∷ 15 ∷ 252 ∷ 0 ∷ 0 ∷ 0 ∷ 5 ∷ 37 ∷ 96 ∷ 149 ∷ 19 ∷ 0 ∷ 0 ∷ 0 ∷ 0 ∷ 0 ∷ 0 ∷ 0 ∷ 0 ∷ 0 ∷ 0 ∷ 0 ∷ 4 ∷ 0 ∷ 0 ∷ 0 ∷ 0 ∷ 0 ∷ 0 ∷ 15 ∷ 252 ∷ 0 ∷ 0 ∷ 0 ∷ 4 ∷ [];
          bare = true;
          spelled = refl;
          fits = lit≤ tt;
          known = refl;
          haggles = record {
            options = [];
            behind = 73 ∷ 72 ∷ 65 ∷ 86 ∷ 69 ∷ 79 ∷ 80 ∷ 84 ∷ 0 ∷ 0 ∷ 0 ∷ 1 ∷ 0 ∷ 0 ∷ 0 ∷ 1 ∷ 97 ∷ 37 ∷ 96 ∷ 149 ∷ 19 ∷ 0 ∷ 0 ∷ 0 ∷ 1 ∷ 0 ∷ 0 ∷ 0 ∷ 0 ∷ 0 ∷ 0 ∷ 0 ∷ 1 ∷ 0 ∷ 0 ∷ 0 ∷ 0 ∷ 0 ∷ 0 ∷ 15 ∷ 252 ∷ 0 ∷ 0 ∷ 0 ∷ 4 ∷ 222 ∷ 173 ∷ 190 ∷ 239 ∷ 37 ∷ 96 ∷ 149 ∷ 19 ∷ 0 ∷ 0 ∷ 0 ∷ 1 ∷ 0 ∷ 0 ∷ 0 ∷ 0 ∷ 0 ∷ 0 ∷ 0 ∷ 2 ∷ 0 ∷ 0 ∷ 0 ∷ 0 ∷ 0 ∷ 0 ∷ 15 ∷ 252 ∷ 0 ∷ 0 ∷ 0 ∷ 5 ∷ 1 ∷ 2 ∷ 3 ∷ 4 ∷ 5 ∷ 37 ∷ 96 ∷ 149 ∷ 19 ∷ 0 ∷ 0 ∷ 0 ∷ 0 ∷ 0 ∷ 0 ∷ 0 ∷ 0 ∷ 0 ∷ 0 ∷ 0 ∷ 3 ∷ 0 ∷ 0 ∷ 0 ∷ 0 ∷ 0 ∷ 0 ∷ 15 ∷ 252 ∷ 0 ∷ 0 ∷ 0 ∷ 5 ∷ 37 ∷ 96 ∷ 149 ∷ 19 ∷ 0 ∷ 0 ∷ 0 ∷ 0 ∷ 0 ∷ 0 ∷ 0 ∷ 0 ∷ 0 ∷ 0 ∷ 0 ∷ 4 ∷ 0 ∷ 0 ∷ 0 ∷ 0 ∷ 0 ∷ 0 ∷ 15 ∷ 252 ∷ 0 ∷ 0 ∷ 0 ∷ 4 ∷ [];
            later = 0 ∷ 0 ∷ 0 ∷ 0 ∷ 0 ∷ 0 ∷ 16 ∷ 0 ∷ 5 ∷ 109 ∷ [];
            spelled = refl;
            said = refl;
            each = tt;
            few = lit≤ tt;
            ends = inr (record {
              last = record { option = record { number = 1; content = 97 ∷ [] }; answer = attached.Given };
              asked = record { number = lit≤ tt; short = lit≤ tt; answer = refl };
              few = lit≤ tt;
              spelled = refl;
              end = haggle_ends.Entered 0;
              said = refl;
              is = refl;
            });
          };
        }),
      );
      said = refl;
      continues = record {
        requests = (record { head = record { flags = 0; kind = 1; cookie = 1; offset = 4092; length = 4 }; payload = 222 ∷ 173 ∷ 190 ∷ 239 ∷ [] }) ∷ (record { head = record { flags = 0; kind = 1; cookie = 2; offset = 4092; length = 5 }; payload = 1 ∷ 2 ∷ 3 ∷ 4 ∷ 5 ∷ [] }) ∷ (record { head = record { flags = 0; kind = 0; cookie = 3; offset = 4092; length = 5 }; payload = [] }) ∷ (record { head = record { flags = 0; kind = 0; cookie = 4; offset = 4092; length = 4 }; payload = [] }) ∷ [];
        rest = [];
        spelled = refl;
        said = refl;
        answered = (write_answered (record { flags = 0; kind = 1; cookie = 1; offset = 4092; length = 4 }) (222 ∷ 173 ∷ 190 ∷ 239 ∷ []) (record { flags = lit≤ tt; kind = lit≤ tt; cookie = lit≤ tt; offset = lit≤ tt; count = lit≤ tt }) refl refl (lit≤ tt), (λ w. (cc)), (write_answered (record { flags = 0; kind = 1; cookie = 2; offset = 4092; length = 5 }) (1 ∷ 2 ∷ 3 ∷ 4 ∷ 5 ∷ []) (record { flags = lit≤ tt; kind = lit≤ tt; cookie = lit≤ tt; offset = lit≤ tt; count = lit≤ tt }) refl refl (lit≤ tt), (λ w. (cc)), (plain_answered (record { flags = 0; kind = 0; cookie = 3; offset = 4092; length = 5 }) (record { flags = lit≤ tt; kind = lit≤ tt; cookie = lit≤ tt; offset = lit≤ tt; count = lit≤ tt }) (λ e. absurd (omega (arith, e))) (λ e. absurd (omega (arith, e))), (λ w. (cc)), (plain_answered (record { flags = 0; kind = 0; cookie = 4; offset = 4092; length = 4 }) (record { flags = lit≤ tt; kind = lit≤ tt; cookie = lit≤ tt; offset = lit≤ tt; count = lit≤ tt }) (λ e. absurd (omega (arith, e))) (λ e. absurd (omega (arith, e))), (λ w. (cc)), tt))));
        ends = inl refl;
      };
    }

pub cut_head : Talked one_export cut_head_bytes cut_head_text ends.Cut
unfolding head_text reply_head_text option_head_text greeting_text opened arriving after reply_to
cut_head =
    record {
      entry = entries.In 0;
      rest = 37 ∷ 96 ∷ 149 ∷ 19 ∷ 0 ∷ 0 ∷ 0 ∷ 0 ∷ 0 ∷ 0 ∷ 0 ∷ 0 ∷ 0 ∷ 0 ∷ 0 ∷ 1 ∷ 0 ∷ 0 ∷ 0 ∷ 0 ∷ 0 ∷ 0 ∷ 0 ∷ 0 ∷ 0 ∷ 0 ∷ 0 ∷ [];
      first = 78 ∷ 66 ∷ 68 ∷ 77 ∷ 65 ∷ 71 ∷ 73 ∷ 67 ∷ 73 ∷ 72 ∷ 65 ∷ 86 ∷ 69 ∷ 79 ∷ 80 ∷ 84 ∷ 0 ∷ 3 ∷ 0 ∷ 0 ∷ 0 ∷ 0 ∷ 0 ∷ 0 ∷ 16 ∷ 0 ∷ 5 ∷ 109 ∷ [];
      later = [];
      shaken = (
        0 ∷ 0 ∷ 0 ∷ 0 ∷ 0 ∷ 0 ∷ 16 ∷ 0 ∷ 5 ∷ 109 ∷ [],
        refl,
        inr (record {
          flags = 3;
          more = 73 ∷ 72 ∷ 65 ∷ 86 ∷ 69 ∷ 79 ∷ 80 ∷ 84 ∷ 0 ∷ 0 ∷ 0 ∷ 1 ∷ 0 ∷ 0 ∷ 0 ∷ 1 ∷ 97 ∷ 37 ∷ 96 ∷ 149 ∷ 19 ∷ 0 ∷ 0 ∷ 0 ∷ 0 ∷ 0 ∷ 0 ∷ 0 ∷ 0 ∷ 0 ∷ 0 ∷ 0 ∷ 1 ∷ 0 ∷ 0 ∷ 0 ∷ 0 ∷ 0 ∷ 0 ∷ 0 ∷ 0 ∷ 0 ∷ 0 ∷ 0 ∷ [];
          bare = true;
          spelled = refl;
          fits = lit≤ tt;
          known = refl;
          haggles = record {
            options = [];
            behind = 73 ∷ 72 ∷ 65 ∷ 86 ∷ 69 ∷ 79 ∷ 80 ∷ 84 ∷ 0 ∷ 0 ∷ 0 ∷ 1 ∷ 0 ∷ 0 ∷ 0 ∷ 1 ∷ 97 ∷ 37 ∷ 96 ∷ 149 ∷ 19 ∷ 0 ∷ 0 ∷ 0 ∷ 0 ∷ 0 ∷ 0 ∷ 0 ∷ 0 ∷ 0 ∷ 0 ∷ 0 ∷ 1 ∷ 0 ∷ 0 ∷ 0 ∷ 0 ∷ 0 ∷ 0 ∷ 0 ∷ 0 ∷ 0 ∷ 0 ∷ 0 ∷ [];
            later = 0 ∷ 0 ∷ 0 ∷ 0 ∷ 0 ∷ 0 ∷ 16 ∷ 0 ∷ 5 ∷ 109 ∷ [];
            spelled = refl;
            said = refl;
            each = tt;
            few = lit≤ tt;
            ends = inr (record {
              last = record { option = record { number = 1; content = 97 ∷ [] }; answer = attached.Given };
              asked = record { number = lit≤ tt; short = lit≤ tt; answer = refl };
              few = lit≤ tt;
              spelled = refl;
              end = haggle_ends.Entered 0;
              said = refl;
              is = refl;
            });
          };
        }),
      );
      said = refl;
      continues = record {
        requests = [];
        rest = 37 ∷ 96 ∷ 149 ∷ 19 ∷ 0 ∷ 0 ∷ 0 ∷ 0 ∷ 0 ∷ 0 ∷ 0 ∷ 0 ∷ 0 ∷ 0 ∷ 0 ∷ 1 ∷ 0 ∷ 0 ∷ 0 ∷ 0 ∷ 0 ∷ 0 ∷ 0 ∷ 0 ∷ 0 ∷ 0 ∷ 0 ∷ [];
        spelled = refl;
        said = refl;
        answered = tt;
        ends = inl (lit≤ tt, inl (lit≤ tt));
      };
    }

pub cut_payload : Talked one_export cut_payload_bytes cut_payload_text ends.Cut
unfolding head_text reply_head_text option_head_text greeting_text opened arriving after reply_to
cut_payload =
    record {
      entry = entries.In 0;
      rest = 37 ∷ 96 ∷ 149 ∷ 19 ∷ 0 ∷ 0 ∷ 0 ∷ 1 ∷ 0 ∷ 0 ∷ 0 ∷ 0 ∷ 0 ∷ 0 ∷ 0 ∷ 1 ∷ 0 ∷ 0 ∷ 0 ∷ 0 ∷ 0 ∷ 0 ∷ 0 ∷ 0 ∷ 0 ∷ 0 ∷ 0 ∷ 4 ∷ 222 ∷ 173 ∷ [];
      first = 78 ∷ 66 ∷ 68 ∷ 77 ∷ 65 ∷ 71 ∷ 73 ∷ 67 ∷ 73 ∷ 72 ∷ 65 ∷ 86 ∷ 69 ∷ 79 ∷ 80 ∷ 84 ∷ 0 ∷ 3 ∷ 0 ∷ 0 ∷ 0 ∷ 0 ∷ 0 ∷ 0 ∷ 16 ∷ 0 ∷ 5 ∷ 109 ∷ [];
      later = [];
      shaken = (
        0 ∷ 0 ∷ 0 ∷ 0 ∷ 0 ∷ 0 ∷ 16 ∷ 0 ∷ 5 ∷ 109 ∷ [],
        refl,
        inr (record {
          flags = 3;
          more = 73 ∷ 72 ∷ 65 ∷ 86 ∷ 69 ∷ 79 ∷ 80 ∷ 84 ∷ 0 ∷ 0 ∷ 0 ∷ 1 ∷ 0 ∷ 0 ∷ 0 ∷ 1 ∷ 97 ∷ 37 ∷ 96 ∷ 149 ∷ 19 ∷ 0 ∷ 0 ∷ 0 ∷ 1 ∷ 0 ∷ 0 ∷ 0 ∷ 0 ∷ 0 ∷ 0 ∷ 0 ∷ 1 ∷ 0 ∷ 0 ∷ 0 ∷ 0 ∷ 0 ∷ 0 ∷ 0 ∷ 0 ∷ 0 ∷ 0 ∷ 0 ∷ 4 ∷ 222 ∷ 173 ∷ [];
          bare = true;
          spelled = refl;
          fits = lit≤ tt;
          known = refl;
          haggles = record {
            options = [];
            behind = 73 ∷ 72 ∷ 65 ∷ 86 ∷ 69 ∷ 79 ∷ 80 ∷ 84 ∷ 0 ∷ 0 ∷ 0 ∷ 1 ∷ 0 ∷ 0 ∷ 0 ∷ 1 ∷ 97 ∷ 37 ∷ 96 ∷ 149 ∷ 19 ∷ 0 ∷ 0 ∷ 0 ∷ 1 ∷ 0 ∷ 0 ∷ 0 ∷ 0 ∷ 0 ∷ 0 ∷ 0 ∷ 1 ∷ 0 ∷ 0 ∷ 0 ∷ 0 ∷ 0 ∷ 0 ∷ 0 ∷ 0 ∷ 0 ∷ 0 ∷ 0 ∷ 4 ∷ 222 ∷ 173 ∷ [];
            later = 0 ∷ 0 ∷ 0 ∷ 0 ∷ 0 ∷ 0 ∷ 16 ∷ 0 ∷ 5 ∷ 109 ∷ [];
            spelled = refl;
            said = refl;
            each = tt;
            few = lit≤ tt;
            ends = inr (record {
              last = record { option = record { number = 1; content = 97 ∷ [] }; answer = attached.Given };
              asked = record { number = lit≤ tt; short = lit≤ tt; answer = refl };
              few = lit≤ tt;
              spelled = refl;
              end = haggle_ends.Entered 0;
              said = refl;
              is = refl;
            });
          };
        }),
      );
      said = refl;
      continues = record {
        requests = [];
        rest = 37 ∷ 96 ∷ 149 ∷ 19 ∷ 0 ∷ 0 ∷ 0 ∷ 1 ∷ 0 ∷ 0 ∷ 0 ∷ 0 ∷ 0 ∷ 0 ∷ 0 ∷ 1 ∷ 0 ∷ 0 ∷ 0 ∷ 0 ∷ 0 ∷ 0 ∷ 0 ∷ 0 ∷ 0 ∷ 0 ∷ 0 ∷ 4 ∷ 222 ∷ 173 ∷ [];
        spelled = refl;
        said = refl;
        answered = tt;
        ends = inl (lit≤ tt, inr (record { flags = 0; kind = 1; cookie = 1; offset = 0; length = 4 }, 222 ∷ 173 ∷ [], refl, record { flags = lit≤ tt; kind = lit≤ tt; cookie = lit≤ tt; offset = lit≤ tt; count = lit≤ tt }, (λ t. absurd (omega (arith, t.long))), refl, lit≤ tt));
      };
    }

pub other_magic : Talked one_export other_magic_bytes other_magic_text ends.BadMagic
unfolding head_text reply_head_text option_head_text greeting_text opened arriving after reply_to
other_magic =
    record {
      entry = entries.In 0;
      rest = 37 ∷ 96 ∷ 149 ∷ 19 ∷ 0 ∷ 0 ∷ 0 ∷ 0 ∷ 0 ∷ 0 ∷ 0 ∷ 0 ∷ 0 ∷ 0 ∷ 0 ∷ 1 ∷ 0 ∷ 0 ∷ 0 ∷ 0 ∷ 0 ∷ 0 ∷ 0 ∷ 0 ∷ 0 ∷ 0 ∷ 0 ∷ 1 ∷ 37 ∷ 96 ∷ 149 ∷ 20 ∷ 0 ∷ 0 ∷ 0 ∷ 0 ∷ 0 ∷ 0 ∷ 0 ∷ 0 ∷ 0 ∷ 0 ∷ 0 ∷ 0 ∷ 0 ∷ 0 ∷ 0 ∷ 0 ∷ 0 ∷ 0 ∷ 0 ∷ 0 ∷ 0 ∷ 0 ∷ 0 ∷ 0 ∷ [];
      first = 78 ∷ 66 ∷ 68 ∷ 77 ∷ 65 ∷ 71 ∷ 73 ∷ 67 ∷ 73 ∷ 72 ∷ 65 ∷ 86 ∷ 69 ∷ 79 ∷ 80 ∷ 84 ∷ 0 ∷ 3 ∷ 0 ∷ 0 ∷ 0 ∷ 0 ∷ 0 ∷ 0 ∷ 16 ∷ 0 ∷ 5 ∷ 109 ∷ [];
      later = 103 ∷ 68 ∷ 102 ∷ 152 ∷ 0 ∷ 0 ∷ 0 ∷ 0 ∷ 0 ∷ 0 ∷ 0 ∷ 0 ∷ 0 ∷ 0 ∷ 0 ∷ 1 ∷ 0 ∷ [];
      shaken = (
        0 ∷ 0 ∷ 0 ∷ 0 ∷ 0 ∷ 0 ∷ 16 ∷ 0 ∷ 5 ∷ 109 ∷ [],
        refl,
        inr (record {
          flags = 3;
          more = 73 ∷ 72 ∷ 65 ∷ 86 ∷ 69 ∷ 79 ∷ 80 ∷ 84 ∷ 0 ∷ 0 ∷ 0 ∷ 1 ∷ 0 ∷ 0 ∷ 0 ∷ 1 ∷ 97 ∷ 37 ∷ 96 ∷ 149 ∷ 19 ∷ 0 ∷ 0 ∷ 0 ∷ 0 ∷ 0 ∷ 0 ∷ 0 ∷ 0 ∷ 0 ∷ 0 ∷ 0 ∷ 1 ∷ 0 ∷ 0 ∷ 0 ∷ 0 ∷ 0 ∷ 0 ∷ 0 ∷ 0 ∷ 0 ∷ 0 ∷ 0 ∷ 1 ∷ 37 ∷ 96 ∷ 149 ∷ 20 ∷ 0 ∷ 0 ∷ 0 ∷ 0 ∷ 0 ∷ 0 ∷ 0 ∷ 0 ∷ 0 ∷ 0 ∷ 0 ∷ 0 ∷ 0 ∷ 0 ∷ 0 ∷ 0 ∷ 0 ∷ 0 ∷ 0 ∷ 0 ∷ 0 ∷ 0 ∷ 0 ∷ 0 ∷ [];
          bare = true;
          spelled = refl;
          fits = lit≤ tt;
          known = refl;
          haggles = record {
            options = [];
            behind = 73 ∷ 72 ∷ 65 ∷ 86 ∷ 69 ∷ 79 ∷ 80 ∷ 84 ∷ 0 ∷ 0 ∷ 0 ∷ 1 ∷ 0 ∷ 0 ∷ 0 ∷ 1 ∷ 97 ∷ 37 ∷ 96 ∷ 149 ∷ 19 ∷ 0 ∷ 0 ∷ 0 ∷ 0 ∷ 0 ∷ 0 ∷ 0 ∷ 0 ∷ 0 ∷ 0 ∷ 0 ∷ 1 ∷ 0 ∷ 0 ∷ 0 ∷ 0 ∷ 0 ∷ 0 ∷ 0 ∷ 0 ∷ 0 ∷ 0 ∷ 0 ∷ 1 ∷ 37 ∷ 96 ∷ 149 ∷ 20 ∷ 0 ∷ 0 ∷ 0 ∷ 0 ∷ 0 ∷ 0 ∷ 0 ∷ 0 ∷ 0 ∷ 0 ∷ 0 ∷ 0 ∷ 0 ∷ 0 ∷ 0 ∷ 0 ∷ 0 ∷ 0 ∷ 0 ∷ 0 ∷ 0 ∷ 0 ∷ 0 ∷ 0 ∷ [];
            later = 0 ∷ 0 ∷ 0 ∷ 0 ∷ 0 ∷ 0 ∷ 16 ∷ 0 ∷ 5 ∷ 109 ∷ [];
            spelled = refl;
            said = refl;
            each = tt;
            few = lit≤ tt;
            ends = inr (record {
              last = record { option = record { number = 1; content = 97 ∷ [] }; answer = attached.Given };
              asked = record { number = lit≤ tt; short = lit≤ tt; answer = refl };
              few = lit≤ tt;
              spelled = refl;
              end = haggle_ends.Entered 0;
              said = refl;
              is = refl;
            });
          };
        }),
      );
      said = refl;
      continues = record {
        requests = (record { head = record { flags = 0; kind = 0; cookie = 1; offset = 0; length = 1 }; payload = [] }) ∷ [];
        rest = 37 ∷ 96 ∷ 149 ∷ 20 ∷ 0 ∷ 0 ∷ 0 ∷ 0 ∷ 0 ∷ 0 ∷ 0 ∷ 0 ∷ 0 ∷ 0 ∷ 0 ∷ 0 ∷ 0 ∷ 0 ∷ 0 ∷ 0 ∷ 0 ∷ 0 ∷ 0 ∷ 0 ∷ 0 ∷ 0 ∷ 0 ∷ 0 ∷ [];
        spelled = refl;
        said = refl;
        answered = (plain_answered (record { flags = 0; kind = 0; cookie = 1; offset = 0; length = 1 }) (record { flags = lit≤ tt; kind = lit≤ tt; cookie = lit≤ tt; offset = lit≤ tt; count = lit≤ tt }) (λ e. absurd (omega (arith, e))) (λ e. absurd (omega (arith, e))), (λ w. (cc)), tt);
        ends = inl (lit≤ tt, (λ e. absurd (omega (arith, ap (λ (t : List ℕ). get_or t 3 0) e))));
      };
    }

pub too_long : Talked one_export too_long_bytes too_long_text ends.TooLong
unfolding head_text reply_head_text option_head_text greeting_text opened arriving after reply_to
too_long =
    record {
      entry = entries.In 0;
      rest = 37 ∷ 96 ∷ 149 ∷ 19 ∷ 0 ∷ 0 ∷ 0 ∷ 1 ∷ 0 ∷ 0 ∷ 0 ∷ 0 ∷ 0 ∷ 0 ∷ 0 ∷ 1 ∷ 0 ∷ 0 ∷ 0 ∷ 0 ∷ 0 ∷ 0 ∷ 0 ∷ 0 ∷ 2 ∷ 0 ∷ 0 ∷ 1 ∷ [];
      first = 78 ∷ 66 ∷ 68 ∷ 77 ∷ 65 ∷ 71 ∷ 73 ∷ 67 ∷ 73 ∷ 72 ∷ 65 ∷ 86 ∷ 69 ∷ 79 ∷ 80 ∷ 84 ∷ 0 ∷ 3 ∷ 0 ∷ 0 ∷ 0 ∷ 0 ∷ 0 ∷ 0 ∷ 16 ∷ 0 ∷ 5 ∷ 109 ∷ [];
      later = [];
      shaken = (
        0 ∷ 0 ∷ 0 ∷ 0 ∷ 0 ∷ 0 ∷ 16 ∷ 0 ∷ 5 ∷ 109 ∷ [],
        refl,
        inr (record {
          flags = 3;
          more = 73 ∷ 72 ∷ 65 ∷ 86 ∷ 69 ∷ 79 ∷ 80 ∷ 84 ∷ 0 ∷ 0 ∷ 0 ∷ 1 ∷ 0 ∷ 0 ∷ 0 ∷ 1 ∷ 97 ∷ 37 ∷ 96 ∷ 149 ∷ 19 ∷ 0 ∷ 0 ∷ 0 ∷ 1 ∷ 0 ∷ 0 ∷ 0 ∷ 0 ∷ 0 ∷ 0 ∷ 0 ∷ 1 ∷ 0 ∷ 0 ∷ 0 ∷ 0 ∷ 0 ∷ 0 ∷ 0 ∷ 0 ∷ 2 ∷ 0 ∷ 0 ∷ 1 ∷ [];
          bare = true;
          spelled = refl;
          fits = lit≤ tt;
          known = refl;
          haggles = record {
            options = [];
            behind = 73 ∷ 72 ∷ 65 ∷ 86 ∷ 69 ∷ 79 ∷ 80 ∷ 84 ∷ 0 ∷ 0 ∷ 0 ∷ 1 ∷ 0 ∷ 0 ∷ 0 ∷ 1 ∷ 97 ∷ 37 ∷ 96 ∷ 149 ∷ 19 ∷ 0 ∷ 0 ∷ 0 ∷ 1 ∷ 0 ∷ 0 ∷ 0 ∷ 0 ∷ 0 ∷ 0 ∷ 0 ∷ 1 ∷ 0 ∷ 0 ∷ 0 ∷ 0 ∷ 0 ∷ 0 ∷ 0 ∷ 0 ∷ 2 ∷ 0 ∷ 0 ∷ 1 ∷ [];
            later = 0 ∷ 0 ∷ 0 ∷ 0 ∷ 0 ∷ 0 ∷ 16 ∷ 0 ∷ 5 ∷ 109 ∷ [];
            spelled = refl;
            said = refl;
            each = tt;
            few = lit≤ tt;
            ends = inr (record {
              last = record { option = record { number = 1; content = 97 ∷ [] }; answer = attached.Given };
              asked = record { number = lit≤ tt; short = lit≤ tt; answer = refl };
              few = lit≤ tt;
              spelled = refl;
              end = haggle_ends.Entered 0;
              said = refl;
              is = refl;
            });
          };
        }),
      );
      said = refl;
      continues = record {
        requests = [];
        rest = 37 ∷ 96 ∷ 149 ∷ 19 ∷ 0 ∷ 0 ∷ 0 ∷ 1 ∷ 0 ∷ 0 ∷ 0 ∷ 0 ∷ 0 ∷ 0 ∷ 0 ∷ 1 ∷ 0 ∷ 0 ∷ 0 ∷ 0 ∷ 0 ∷ 0 ∷ 0 ∷ 0 ∷ 2 ∷ 0 ∷ 0 ∷ 1 ∷ [];
        spelled = refl;
        said = refl;
        answered = tt;
        ends = inl (record { flags = 0; kind = 1; cookie = 1; offset = 0; length = 33554433 }, [], refl, record { flags = lit≤ tt; kind = lit≤ tt; cookie = lit≤ tt; offset = lit≤ tt; count = lit≤ tt }, record { write = refl; long = lit≤ tt });
      };
    }
