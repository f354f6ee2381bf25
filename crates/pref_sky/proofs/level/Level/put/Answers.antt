use Rattle.pref_sky.proofs.Common.{Item, refl}
use Rattle.pref_sky.proofs.StepLaws.{put_stands}
use Rattle.pref_sky.specs.Leads.{mark_of, rule_of}
use Rattle.std.proofs.lemmas.Result.{on_ok_weaker}
use Rattle.pref_sky.proofs.level.Level.put.Goals as goal

pub returns : goal.returns
returns c sweeps of_class stands at =
    let last : Item = record { signature = c.args.signature; place = c.args.place } in
    on_ok_weaker c.keep.result (put_stands _ _ _ _ c.args.entries.now sweeps.swept (rule_of c.args.lead.now) (mark_of c.args.lead.now) c.args.class c.args.place c.args.above c.args.self.now stands c.requires.inside at
    c.put_step.new.steps last c.keep.new.self (c.in_ok-put_step.ensures {u = tt}) refl c.requires.signature) c.keep.ensures
