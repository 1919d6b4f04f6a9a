mod ObjectLaws
