use Rattle.std.proofs.Common.{◌≡◌, ℕ, ◌++◌, ◌∷◌, [], List, ap, ◌∙◌}
use Rattle.field_table.specs.ValueText.{addr6_text, hex_group, group_at}
use Rattle.field_table.proofs.printing.addr6.Goals as goal

-- the pieces one after another are the whole
joined : (n : ℕ) (a b c d e f g h i : List ℕ) → a ≡ [] → b ≡ a ++ hex_group (group_at n 112) → c ≡ b ++ (58 ∷ hex_group (group_at n 96)) → d ≡ c ++ (58 ∷ hex_group (group_at n 80)) → e ≡ d ++ (58 ∷ hex_group (group_at n 64)) → f ≡ e ++ (58 ∷ hex_group (group_at n 48)) → g ≡ f ++ (58 ∷ hex_group (group_at n 32)) → h ≡ g ++ (58 ∷ hex_group (group_at n 16)) → i ≡ h ++ (58 ∷ hex_group (group_at n 0)) → i ≡ addr6_text n
joined n a b c d e f g h i ea eb ec ed ee ef eg eh ei =
    ei ∙ ap (λ x. x ++ (58 ∷ hex_group (group_at n 0))) (eh
    ∙ ap (λ x. x ++ (58 ∷ hex_group (group_at n 16))) (eg
    ∙ ap (λ x. x ++ (58 ∷ hex_group (group_at n 32))) (ef
    ∙ ap (λ x. x ++ (58 ∷ hex_group (group_at n 48))) (ee
    ∙ ap (λ x. x ++ (58 ∷ hex_group (group_at n 64))) (ed
    ∙ ap (λ x. x ++ (58 ∷ hex_group (group_at n 80))) (ec
    ∙ ap (λ x. x ++ (58 ∷ hex_group (group_at n 96))) (eb
    ∙ ap (λ x. x ++ hex_group (group_at n 112)) ea)))))))

pub returns : goal.returns
returns c =
    joined c.args.n _ _ _ _ _ _ _ _ _ c.new-text.ensures.bytes c.in_ok-push_group.ensures c.in_ok-push_next_group.ensures c.in_ok-push_next_group-2.ensures c.in_ok-push_next_group-3.ensures c.in_ok-push_next_group-4.ensures c.in_ok-push_next_group-5.ensures c.in_ok-push_next_group-6.ensures c.in_ok-push_next_group-7.ensures
