mod DemoLemmas
