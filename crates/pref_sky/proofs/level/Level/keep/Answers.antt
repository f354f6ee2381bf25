use Rattle.pref_sky.proofs.Common.{◌∙◌, Item, ap, inl, inr}
use Rattle.pref_sky.proofs.StepLaws.{pushed}
use Rattle.pref_sky.specs.Leads.{mark_of}
use Rattle.pref_sky.proofs.level.Level.keep.Goals as goal

pub returns-in_ok-push : goal.returns-in_ok-push
returns-in_ok-push c =
    let begun = c.begin_class.ensures in
    let w = pushed c.begin_class.new.self.run.items c.push.new.self.items c.args.item (c.in_ok-push.ensures {u = tt}).items in
    record {
      steps = begun.steps;
      class_is = begun.class_is;
      there = inl w.0;
      within = λ y m. elim m [ inl old ↦ elim (w.1 y old) [ inl run ↦ inl (begun.within y (inl run)) | inr last ↦ inr last ] | inr came ↦ inl (begun.within y (inr came)) ];
      run = λ y m. elim (w.1 y m) [ inl old ↦ inl (begun.run y old) | inr last ↦ inr (ap (λ (z : Item). mark_of c.args.lead.now z.place) last ∙ c.was_below.ensures c.if-was_below.true) ];
      stays = λ same y m. elim (begun.stays same y m) [ inl old ↦ inl (w.2 y old) | inr came ↦ inr came ];
    }

pub returns-in_ok-push-2 : goal.returns-in_ok-push-2
returns-in_ok-push-2 c =
    let begun = c.begin_class.ensures in
    let w = pushed c.begin_class.new.self.fresh.items c.push-else-was_below.new.self.items c.args.item (c.in_ok-push-2.ensures {u = tt}).items in
    record {
      steps = begun.steps;
      class_is = begun.class_is;
      there = inr w.0;
      within = λ y m. elim m [ inl old ↦ inl (begun.within y (inl old)) | inr came ↦ elim (w.1 y came) [ inl fresh ↦ inl (begun.within y (inr fresh)) | inr last ↦ inr last ] ];
      run = λ y m. inl (begun.run y m);
      stays = λ same y m. elim (begun.stays same y m) [ inl old ↦ inl old | inr came ↦ inr (w.2 y came) ];
    }
