-- Each kind of line has a word of its own, and each end of a round.
use Rattle.std.proofs.Common.{◌≡◌, ℕ, ◌+◌, ◌*◌, List, length, get_or, cond, eqb, refl, sym, ap, ◌∙◌}
use Rattle.audit.specs.Kinds.{kind_text, end_text}
use Rattle.audit.specs.declared.kind.Kind.{Kind}
use Rattle.audit.specs.declared.kind.Kind.TheVariants as kind
use Rattle.audit.specs.declared.kind.End.{End}
use Rattle.audit.specs.declared.kind.End.TheVariants as end

-- a number that tells the words apart: by their lengths and third letters
abbrev mark : List ℕ → ℕ
mark word = get_or word 2 0 + 200 * length word

abbrev kind_by : ℕ → Kind
kind_by n =
    cond (eqb n 1097) kind.Learn (cond (eqb n 1112) kind.Reply (cond (eqb n 1315) kind.Answer (cond (eqb n 1515) kind.Restore
    (cond (eqb n 1302) kind.Refuse (cond (eqb n 911) kind.Stop (cond (eqb n 1117) kind.Round kind.Strangers))))))

kind_again : (k : Kind) → kind_by (mark (kind_text k)) ≡ k
kind_again kind.Learn = refl
kind_again kind.Reply = refl
kind_again kind.Answer = refl
kind_again kind.Restore = refl
kind_again kind.Refuse = refl
kind_again kind.Stop = refl
kind_again kind.Round = refl
kind_again kind.Strangers = refl

pub one_kind : (a b : Kind) → kind_text a ≡ kind_text b → a ≡ b
one_kind a b e = sym (kind_again a) ∙ (ap (λ (word : List ℕ). kind_by (mark word)) e ∙ kind_again b)

abbrev end_by : ℕ → End
end_by n =
    cond (eqb n 1499) end.Decided (cond (eqb n 719) end.Low (cond (eqb n 1713) end.NoQuorum (cond (eqb n 919) end.Down
    (cond (eqb n 1304) end.Behind (cond (eqb n 1502) end.Refused end.Stopped)))))

end_again : (e : End) → end_by (mark (end_text e)) ≡ e
end_again end.Decided = refl
end_again end.Low = refl
end_again end.NoQuorum = refl
end_again end.Down = refl
end_again end.Behind = refl
end_again end.Refused = refl
end_again end.Stopped = refl

pub one_end : (a b : End) → end_text a ≡ end_text b → a ≡ b
one_end a b e = sym (end_again a) ∙ (ap (λ (word : List ℕ). end_by (mark word)) e ∙ end_again b)
